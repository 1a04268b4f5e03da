use Rattle.std.proofs.Common.{ℕ, List, Result, Ok, Err}
use Rattle.std.specs.Prelude.{IfOk}
use Rattle.gen_types.specs.declared.reading.ReadError.{ReadError}
use Rattle.gen_types.specs.Spelled.{IsRead}
use Rattle.gen_types.proofs.Laws.{only_by}
use Rattle.gen_net.specs.Network.{IsNetwork}
use Rattle.gen_text.specs.declared.fault.ScenarioFault.{ScenarioFault}
use Rattle.gen_text.specs.declared.scenario_text.ScenarioText.{ScenarioText}
use Rattle.gen_text.specs.Told.{net_of}
use Rattle.gen_text.specs.ScenarioReading.{scenario_of}
use Rattle.gen_text.specs.Scenario.{SpellsScenario}
use Rattle.gen_text.proofs.AgainScenario.{scenario_again}
use Rattle.gen_text.proofs.FoundScenario.{scenario_found}
use Rattle.gen_text.proofs.scenario.read_scenario.Goals as goal

found : (text : List ℕ) (r : Result ScenarioText (ReadError ScenarioFault)) → IsRead r (scenario_of text) → IfOk r (λ told. IsNetwork (net_of told)) → IfOk r (SpellsScenario text)
found text (Ok told) read network = scenario_found text told network read
found text (Err e) read network = tt

pub returns-clause-found : goal.returns-clause-found
returns-clause-found c = found c.args.text.now c.whole.result c.whole.ensures.exact c.whole.ensures.network

pub returns-clause-only : goal.returns-clause-only
returns-clause-only c = λ told spells. only_by (λ s. s) _ (scenario_of c.args.text.now) told (scenario_again c.args.text.now told spells) c.whole.ensures.exact
