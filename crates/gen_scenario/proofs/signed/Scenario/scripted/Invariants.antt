use Rattle.std.proofs.Common.{take, Contains}
use Rattle.gen_types.specs.Ascending.{IsListOf}
use Rattle.gen_scenario.specs.Scenario as scenarios
use Rattle.gen_scenario.proofs.signed.Scenario.scripted.Given as goal

abbrev pub invariant-scripts : goal.invariant-scripts
invariant-scripts l = IsListOf l.set (Contains (scenarios.scripted (take l.script-index l.self.scripts)))
