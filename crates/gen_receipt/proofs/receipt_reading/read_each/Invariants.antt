use Rattle.std.proofs.Common.{length}
use Rattle.gen_receipt.specs.ReceiptReading.{receipts_under}
use Rattle.gen_receipt.proofs.ReceiptLoop.{IsReading}
use Rattle.gen_receipt.proofs.receipt_reading.read_each.Given as goal

abbrev pub invariant-receipts : goal.invariant-receipts
invariant-receipts l = IsReading l.header l.receipts.items l.rest (receipts_under (length l.bytes) l.header l.bytes)

abbrev pub decreases-receipts : goal.decreases-receipts
decreases-receipts l = length l.rest
