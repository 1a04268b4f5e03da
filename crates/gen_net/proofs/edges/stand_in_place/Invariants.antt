use Rattle.std.proofs.Common.{◌≡◌, length}
use Rattle.gen_net.specs.Edges.{in_place}
use Rattle.gen_net.proofs.edges.stand_in_place.Given as goal

abbrev pub invariant-loop-rest : goal.invariant-loop-rest
invariant-loop-rest l = in_place l.n l.rest ≡ in_place l.n l.edges

abbrev pub decreases-loop-rest : goal.decreases-loop-rest
decreases-loop-rest l = length l.rest
