use Rattle.std.proofs.Common.{List, subst}
use Rattle.gen_net.specs.Header.{RunHeader}
use Rattle.gen_log.specs.Writing.{LogBytes}
use Rattle.gen_receipting.specs.Giving.{GivesFirst, IsReceiptIn}
use Rattle.gen_receipting.proofs.giving.receipt.Goals as goal

pub returns-clause-answer : goal.returns-clause-answer
returns-clause-answer c =
    let b = c.in_ok-bundle.bundle in
    let o = c.in_ok-first_receipt.field-0 in
    let of_header = subst (λ (h : RunHeader). GivesFirst h c.exhibits.result.now c.args.general o.text.items o.negative) c.header.ensures.value c.in_ok-first_receipt.ensures in
    record {
      bundle = b;
      spelled = c.in_ok-bundle.ensures.spelled;
      run = c.in_ok-bundle.ensures.run;
      gives = subst (λ (xs : List LogBytes). GivesFirst b.header xs c.args.general o.text.items o.negative) c.exhibits.ensures of_header;
    }
