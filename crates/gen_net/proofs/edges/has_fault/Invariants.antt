use Rattle.std.proofs.Common.{◌≡◌, length}
use Rattle.gen_net.specs.Edges.{has_bad_edge}
use Rattle.gen_net.proofs.edges.has_fault.Given as goal

abbrev pub invariant-loop-rest : goal.invariant-loop-rest
invariant-loop-rest l = has_bad_edge l.n l.rest ≡ has_bad_edge l.n l.given

abbrev pub decreases-loop-rest : goal.decreases-loop-rest
decreases-loop-rest l = length l.rest
