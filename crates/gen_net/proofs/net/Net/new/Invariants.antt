use Rattle.std.proofs.Common.{◌≡◌, ◌+◌, ◌-◌, ◌++◌, map, filter}
use Rattle.std.specs.List.{list_any, flat_map, range_with_len}
use Rattle.gen_net.specs.Edges.{joins, row}
use Rattle.gen_net.proofs.net.Net.new.Given as goal

abbrev pub invariant-loop-a : goal.invariant-loop-a
invariant-loop-a l = l.ascending.items ≡ filter (λ p. list_any (joins p.0 p.1) l.edges) (flat_map (row l.n) (range_with_len 0 l.a))

abbrev pub invariant-loop-b : goal.invariant-loop-b
invariant-loop-b l = l.ascending.items ≡ l.initial.ascending.items ++ filter (λ p. list_any (joins p.0 p.1) l.edges) (map (λ b. (l.a, b)) (range_with_len (l.a + 1) (l.b - (l.a + 1))))
