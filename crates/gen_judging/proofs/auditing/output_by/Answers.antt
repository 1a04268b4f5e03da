use Rattle.std.proofs.Common.{◌≡◌, ◌∙◌, ap, map, sym}
use Rattle.gen_convict.specs.Evidence.{told_of}
use Rattle.gen_judging.specs.Audit.{shown_text}
use Rattle.gen_judging.proofs.Shown.{audits_shown}
use Rattle.gen_judging.proofs.auditing.output_by.Goals as goal
use Rattle.gen_judging.proofs.auditing.output_by.Goals.{in-None+in_ok-text-in-None, in-Some+in_ok-text-in-Some}

pub returns : goal.returns
returns c =
    let shown = c.args.campaign.now in
    let v = c.args.verdict.now in
    let across = map told_of v.across.items in
    let is : c.match-origin.text.items ≡ shown_text c.args.origin.now shown v.judgements.items across = elim c.match-origin.branch [
      | in-None+in_ok-text-in-None w ↦ ap (λ t. t.items) w.text-is ∙ w.in_ok-text-in-None.ensures ∙ ap (λ o. shown_text o shown v.judgements.items across) (sym w.in-None.is)
      | in-Some+in_ok-text-in-Some w ↦ ap (λ t. t.items) w.text-is ∙ w.in_ok-text-in-Some.ensures.text ∙ ap (λ o. shown_text o shown v.judgements.items across) (sym w.in-Some.is)
    ] in
    audits_shown c.args.origin.now shown.alone shown.bundles v.judgements.items across c.is_yes.result c.match-origin.text.items c.is_alone-lawful.ensures.campaign c.requires.judged c.requires.across c.requires.held c.requires.lawful c.is_yes.ensures is
