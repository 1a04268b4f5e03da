use Rattle.std.proofs.Common.{sym, ◌∙◌}
use Rattle.gen_types.proofs.Steps.{ok_is}
use Rattle.gen_text.specs.declared.fault.ScenarioFault.{ScenarioFault}
use Rattle.gen_campaign.proofs.AgainTexts.{campaign_again}
use Rattle.gen_campaign.proofs.campaign_text.one_campaign_text.Goals as goal

pub returns : goal.returns
returns c = λ text runs others first second. ok_is {F = ScenarioFault} runs others (sym (campaign_again text runs first) ∙ campaign_again text others second)
