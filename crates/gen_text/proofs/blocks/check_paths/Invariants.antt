use Rattle.std.proofs.Common.{◌≡◌, length}
use Rattle.gen_scenario.specs.Scenario.{scripted}
use Rattle.gen_text.specs.BlocksReading.{all_scripted}
use Rattle.gen_text.proofs.blocks.check_paths.Given as goal

abbrev pub invariant-loop-rest : goal.invariant-loop-rest
invariant-loop-rest l = all_scripted (scripted l.scripts) l.rest ≡ all_scripted (scripted l.scripts) l.paths

abbrev pub decreases-loop-rest : goal.decreases-loop-rest
decreases-loop-rest l = length l.rest
