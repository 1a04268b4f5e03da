use Rattle.std.proofs.Common.{List, sym, subst}
use Rattle.gen_receipt.specs.Receipts.{AreReceipts}
use Rattle.gen_receipt.specs.declared.receipts.Receipt.{Receipt}
use Rattle.gen_receipting.proofs.accusing.accusation_by.Goals as goal

pub evidence_by_receipts-requires : goal.evidence_by_receipts-requires
evidence_by_receipts-requires c =
    subst (λ (rs : List Receipt). AreReceipts c.args.read.now.header rs) (sym c.as_slice.ensures.value) c.requires.each
