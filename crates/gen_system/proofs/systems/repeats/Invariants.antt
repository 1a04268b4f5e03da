use Rattle.std.proofs.Common.{◌≡◌, length}
use Rattle.gen_system.specs.Systems.{has_equal}
use Rattle.gen_system.proofs.systems.repeats.Given as goal

abbrev pub invariant-loop-rest : goal.invariant-loop-rest
invariant-loop-rest l = has_equal l.rest ≡ has_equal l.tops

abbrev pub decreases-loop-rest : goal.decreases-loop-rest
decreases-loop-rest l = length l.rest
