use Rattle.std.proofs.Common.{List, refl, sym, subst}
use Rattle.gen_receipt.specs.declared.receipts.Receipt.{Receipt}
use Rattle.gen_receipt.specs.ReceiptSpelling.{file_of}
use Rattle.gen_receipt.specs.Shown.{IsOnlyShown}
use Rattle.sm_node.proofs.shown.tell_shown.Goals as goal

pub returns : goal.returns
returns c =
    let file = c.in-Ok.file in (
      refl,
      refl,
      (
        file_of file,
        record { read = c.in-Ok.ensures.exact; run = c.is_of_run.ensures.0 c.if-not-is_of_run.false },
        (λ other only. c.in-None.ensures.none other (subst (λ (rs : List Receipt). IsOnlyShown file.header rs other) (sym c.as_slice.ensures.value) only)),
      ),
    )
