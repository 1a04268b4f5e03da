use Rattle.std.proofs.Common.{◌≡◌}
use Rattle.gen_lms.specs.Rings.{leaves_up_to}
use Rattle.gen_lms.proofs.trees.KeyTree.from_seed.Given as goal

abbrev pub invariant-leaves : goal.invariant-leaves
invariant-leaves l = l.leaves.items ≡ leaves_up_to (record { identifier = l.identifier; seed = l.seed; height = l.height }) l.number
