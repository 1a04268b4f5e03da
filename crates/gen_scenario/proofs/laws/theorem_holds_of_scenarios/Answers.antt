use Rattle.gen_scenario.proofs.BoundedScenarios.{theorem_holds}
use Rattle.gen_scenario.proofs.laws.theorem_holds_of_scenarios.Goals as goal

pub returns : goal.returns
returns c = theorem_holds
