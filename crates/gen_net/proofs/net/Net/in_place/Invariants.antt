use Rattle.std.proofs.Common.{◌≡◌, ◌≤◌, ◌++◌, length, true}
use Rattle.gen_net.specs.Edges.{in_place}
use Rattle.gen_net.proofs.net.Net.in_place.Given as goal

abbrev pub invariant-loop-rest : goal.invariant-loop-rest
invariant-loop-rest l = record {
  few : l.numbers.generals ≤ 16;
  items : l.placed.items ++ l.rest ≡ l.edges;
  placed : in_place l.numbers.generals l.rest ≡ true;
}

abbrev pub decreases-loop-rest : goal.decreases-loop-rest
decreases-loop-rest l = length l.rest
