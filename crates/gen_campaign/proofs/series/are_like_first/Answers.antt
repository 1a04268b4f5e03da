use Rattle.std.proofs.Common.{◌∙◌, sym}
use Rattle.gen_campaign.proofs.Testing.{alike_first}
use Rattle.gen_campaign.proofs.series.are_like_first.Goals as goal

pub returns-in-Some : goal.returns-in-Some
returns-in-Some c = c.are_all_like.ensures ∙ sym (alike_first c.args.scenarios.now c.in-Some.first.now c.in-Some.field-0-1.now c.in-Some.ensures.cases.0)
