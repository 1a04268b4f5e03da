use Rattle.std.proofs.Common.{◌≡◌, map, take}
use Rattle.gen_scenario.specs.Trees.{root_over}
use Rattle.gen_scenario.proofs.signed.Scenario.of_trees.Given as goal

abbrev pub invariant-trees : goal.invariant-trees
invariant-trees l = l.roots.items ≡ map root_over (take l.tree-index l.tree-items)
