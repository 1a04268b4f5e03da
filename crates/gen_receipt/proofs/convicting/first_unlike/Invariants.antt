use Rattle.std.proofs.Common.{length}
use Rattle.gen_receipt.specs.Convicting.{IsUnlike}
use Rattle.gen_receipt.proofs.FirstReceipts.{NotYet}
use Rattle.gen_receipt.proofs.convicting.first_unlike.Given as goal

abbrev pub invariant-receipts : goal.invariant-receipts
invariant-receipts l = NotYet (IsUnlike l.header l.first) l.receipts l.rest

abbrev pub decreases-receipts : goal.decreases-receipts
decreases-receipts l = length l.rest
