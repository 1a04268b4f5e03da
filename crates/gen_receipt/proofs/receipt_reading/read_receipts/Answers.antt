use Rattle.std.proofs.Common.{arith}
use Rattle.gen_types.specs.Spelled.{Spells}
use Rattle.gen_types.proofs.Laws.{found_by, only_by}
use Rattle.gen_receipt.specs.ReceiptReading.{whole_file}
use Rattle.gen_receipt.specs.ReceiptSpelling.{IsReceiptFile, file_of, file_spelling}
use Rattle.gen_receipt.proofs.ReceiptLaws.{file_found, file_only}
use Rattle.gen_receipt.proofs.receipt_reading.read_receipts.Goals as goal

pub returns-clause-found : goal.returns-clause-found
returns-clause-found c = found_by file_of c.receipts_alone.result (whole_file c.args.bytes.now) (Spells IsReceiptFile file_spelling c.args.bytes.now) (λ x e. file_found c.args.bytes.now x (λ i. omega (arith, c.type_inv.bytes i)) e) c.receipts_alone.ensures

pub returns-clause-only : goal.returns-clause-only
returns-clause-only c = λ f spells. only_by file_of c.receipts_alone.result (whole_file c.args.bytes.now) f (file_only c.args.bytes.now f spells) c.receipts_alone.ensures
