use Rattle.std.proofs.Common.{sym, ◌∙◌}
use Rattle.gen_types.proofs.Steps.{ok_is}
use Rattle.gen_text.specs.declared.fault.ScenarioFault.{ScenarioFault}
use Rattle.gen_text.proofs.AgainScenario.{scenario_again}
use Rattle.gen_text.proofs.scenario.one_scenario.Goals as goal

pub returns : goal.returns
returns c = λ text said other first second. ok_is {F = ScenarioFault} said other (sym (scenario_again text said first) ∙ scenario_again text other second)
