use Rattle.std.proofs.Common.{map}
use Rattle.gen_convict.specs.Evidence.{told_of}
use Rattle.gen_judging.proofs.Drawn.{draws_form}
use Rattle.gen_judging.proofs.drawing.picture_by.Goals as goal

pub returns-clause-answer : goal.returns-clause-answer
returns-clause-answer c =
    let shown = c.args.campaign.now in
    let v = c.args.verdict.now in
    draws_form shown.alone shown.bundles v.judgements.items (map told_of v.across.items) c.in_ok-text.text.items c.is_alone-lawful.ensures.campaign c.requires.judged c.requires.across c.requires.held c.in_ok-text.ensures
