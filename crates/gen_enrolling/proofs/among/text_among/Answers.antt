use Rattle.std.proofs.Common.{◌∙◌, sym}
use Rattle.std.proofs.lemmas.Option.{same_Some}
use Rattle.gen_asked.specs.declared.forms.Form.TheVariants.{Json}
use Rattle.gen_enrolling.proofs.among.text_among.Goals as goal

pub returns-in-Some-clause-reads : goal.returns-in-Some-clause-reads
returns-in-Some-clause-reads c = λ e.
    let reads = c.answer_with.ensures.reads (same_Some c.in-Some.form Json (sym c.in-Some.is ∙ e)) in
    rw c.deref.ensures.value at reads
