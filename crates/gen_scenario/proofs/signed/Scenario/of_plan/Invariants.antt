use Rattle.std.proofs.Common.{◌≡◌, map}
use Rattle.std.specs.List.{range_with_len}
use Rattle.gen_scenario.specs.Trees.{general_tree}
use Rattle.gen_scenario.proofs.signed.Scenario.of_plan.Given as goal

abbrev pub invariant-generals : goal.invariant-generals
invariant-generals l = l.trees.items ≡ map (general_tree l.fn.plan.master l.height) (range_with_len 0 l.number)
