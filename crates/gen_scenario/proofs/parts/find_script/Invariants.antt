use Rattle.std.proofs.Common.{◌≡◌, length}
use Rattle.gen_scenario.specs.Scenario.{script_of}
use Rattle.gen_scenario.proofs.parts.find_script.Given as goal

abbrev pub invariant-rest : goal.invariant-rest
invariant-rest l = script_of l.rest l.fn.general ≡ script_of l.scripts l.fn.general

abbrev pub decreases-rest : goal.decreases-rest
decreases-rest l = length l.rest
