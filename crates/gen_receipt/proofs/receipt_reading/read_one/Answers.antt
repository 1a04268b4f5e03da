use Rattle.std.proofs.Common.{arith}
use Rattle.gen_receipt.proofs.ReceiptLaws.{fields_shorter}
use Rattle.gen_receipt.proofs.receipt_reading.read_one.Goals as goal

pub returns-clause-shorter : goal.returns-clause-shorter
returns-clause-shorter c =
    fields_shorter c.args.header.now c.args.bytes.now (c.in_ok-found.found, c.in_ok-found.rest.now) (c.in_ok-receipt.receipt, c.in_ok-receipt.rest.now) (λ i. omega (arith, c.type_inv.bytes i)) c.in_ok-found.ensures c.in_ok-receipt.ensures
