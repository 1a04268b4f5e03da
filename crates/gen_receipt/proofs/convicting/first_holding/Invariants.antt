use Rattle.std.proofs.Common.{length}
use Rattle.gen_receipt.specs.Convicting.{HoldsFor}
use Rattle.gen_receipt.proofs.FirstReceipts.{NotYet}
use Rattle.gen_receipt.proofs.convicting.first_holding.Given as goal

abbrev pub invariant-receipts : goal.invariant-receipts
invariant-receipts l = NotYet (HoldsFor l.header l.general) l.receipts l.rest

abbrev pub decreases-receipts : goal.decreases-receipts
decreases-receipts l = length l.rest
