use Rattle.std.proofs.Common.{◌≡◌, ◌∙◌, ℕ, List, ap}
use Rattle.std.proofs.lemmas.Result.{IfOk-weaker}
use Rattle.gen_enrolling.specs.Telling.{admitted_json, with_member}
use Rattle.gen_enrolling.proofs.ToldReading.{reads_beside}
use Rattle.gen_enrolling.proofs.telling.object_with.Goals as goal

pub returns-clause-reads : goal.returns-clause-reads
returns-clause-reads c =
    let runs = c.args.admitted.now in
    let object = c.args.object.now in
    let member : c.deref.result.now ≡ admitted_json runs = c.deref.ensures.value ∙ c.in_ok-member.ensures.text in
    IfOk-weaker c.with_member.result _ _
    (λ text is. reads_beside runs object text.items c.in_ok-member.ensures.reads (is ∙ ap (λ (m : List ℕ). with_member m object) member))
    c.with_member.ensures
