use Rattle.std.proofs.Common.{ℕ, ◌<◌, ◌≡◌, length, slice_index_or}
use Rattle.gen_net.specs.Network.{AreNeighbours}
use Rattle.gen_types.specs.Ascending.{IsListOf}
use Rattle.gen_types.specs.Bits.{members_of}
use Rattle.gen_plan.proofs.graph.Graph.of.Given as goal

abbrev pub invariant-loop-number : goal.invariant-loop-number
invariant-loop-number l = (length l.neighbours ≡ 16)
    × ((g : ℕ) → g < l.number → IsListOf (members_of (slice_index_or l.neighbours g 0)) (AreNeighbours l.net g))
