use Rattle.std.proofs.Common.{◌≡◌, ◌*◌}
use Rattle.sha_lanes.specs.declared.words.TheConstants.{LANES}
use Rattle.gen_tree.specs.Rings.{leaf_values}
use Rattle.gen_tree.proofs.key_trees.KeyTree.from_seed.Given as goal

abbrev pub invariant-turns : goal.invariant-turns
invariant-turns l = l.leaves.items ≡ leaf_values l.seed l.height (LANES * l.turn)
