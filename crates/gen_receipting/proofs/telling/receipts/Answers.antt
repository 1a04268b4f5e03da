use Rattle.std.proofs.Common.{ℕ, List, ap, nat_eq, subst, sym}
use Rattle.std.specs.Prelude.{not}
use Rattle.gen_receipt.specs.declared.receipts.Receipt.{Receipt}
use Rattle.gen_receipt.specs.Receipts.{AreReceipts}
use Rattle.gen_receipt.specs.ReceiptSpelling.{file_of}
use Rattle.gen_receipting.specs.Told.{AreTold}
use Rattle.gen_receipting.proofs.telling.receipts.Goals as goal

pub told_by-requires : goal.told_by-requires
told_by-requires c =
    subst (λ (rs : List Receipt). AreReceipts c.in_ok-read.read.header rs) (sym c.as_slice.ensures.value) c.in_ok-read.ensures.spelled.fits.each

pub returns-clause-answer : goal.returns-clause-answer
returns-clause-answer c = record {
  read = file_of c.in_ok-read.read;
  spelled = c.in_ok-read.ensures.spelled;
  run = c.in_ok-read.ensures.run;
  answers = record {
    told = c.in_ok-told.told;
    told_is = subst (λ (rs : List Receipt). AreTold c.in_ok-read.read.header rs c.in_ok-told.told) c.as_slice.ensures.value c.in_ok-told.ensures;
    text_is = c.in_ok-told_in.ensures;
    negative_is = ap (λ (n : ℕ). not (nat_eq n 1)) c.len.ensures.length;
  };
}

pub returns-clause-facts : goal.returns-clause-facts
returns-clause-facts c = record {
  read = file_of c.in_ok-read.read;
  spelled = c.in_ok-read.ensures.spelled;
  run = c.in_ok-read.ensures.run;
  told = c.in_ok-told.told;
  told_is = subst (λ (rs : List Receipt). AreTold c.in_ok-read.read.header rs c.in_ok-told.told) c.as_slice.ensures.value c.in_ok-told.ensures;
  facts_are = c.in_ok-facts.ensures;
}
