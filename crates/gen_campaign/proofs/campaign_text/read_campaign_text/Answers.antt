use Rattle.std.proofs.Common.{ℕ, List, Result, Ok, Err, All}
use Rattle.std.specs.Prelude.{IfOk}
use Rattle.gen_types.specs.declared.reading.ReadError.{ReadError}
use Rattle.gen_types.specs.Reading.{Gives}
use Rattle.gen_types.proofs.Laws.{only_by}
use Rattle.gen_scenario.specs.Scenario.{Scenario, IsScenario}
use Rattle.gen_text.specs.declared.fault.ScenarioFault.{ScenarioFault}
use Rattle.gen_campaign.specs.CampaignText.{SpellsCampaignText}
use Rattle.gen_campaign.specs.CampaignTextReading.{campaign_text_of}
use Rattle.gen_campaign.proofs.AgainTexts.{campaign_again}
use Rattle.gen_campaign.proofs.FoundTexts.{campaign_found}
use Rattle.gen_campaign.proofs.campaign_text.read_campaign_text.Goals as goal

found : {V : Type 0} (items : V → List Scenario) (text : List ℕ) (r : Result V (ReadError ScenarioFault)) → Gives items r (campaign_text_of text) → IfOk r (λ v. All IsScenario (items v)) → IfOk r (λ v. SpellsCampaignText text (items v))
found items text (Ok v) read lawful = campaign_found text (items v) lawful read
found items text (Err e) read lawful = tt

pub returns-clause-found : goal.returns-clause-found
returns-clause-found c = found (λ v. v.items) c.args.text.now c.whole.result c.whole.ensures.exact c.whole.ensures.lawful

pub returns-clause-only : goal.returns-clause-only
returns-clause-only c = λ runs spells. only_by (λ v. v.items) c.whole.result (campaign_text_of c.args.text.now) runs (campaign_again c.args.text.now runs spells) c.whole.ensures.exact
