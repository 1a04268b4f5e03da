use Rattle.std.proofs.Common.{◌≡◌, ◌++◌}
use Rattle.std.specs.List.{flat_map, range_with_len}
use Rattle.gen_plan.specs.EqualRoots.{pair_of, pairs_of}
use Rattle.gen_plan.proofs.roots.equal_roots.Given as goal

abbrev pub invariant-loop-lesser : goal.invariant-loop-lesser
invariant-loop-lesser l = l.pairs.items ≡ flat_map (pairs_of l.header) (range_with_len 0 l.lesser)

abbrev pub invariant-loop-greater : goal.invariant-loop-greater
invariant-loop-greater l = l.pairs.items ≡ l.initial.pairs.items ++ flat_map (pair_of l.header l.a) (range_with_len 0 l.greater)
