use Rattle.std.proofs.Common.{◌<◌}
use Rattle.gen_types.specs.Ascending.{IsListOf}
use Rattle.gen_net.specs.Network.{AreNeighbours}
use Rattle.gen_net.proofs.net.Net.neighbours.Given as goal

abbrev pub invariant-loop-number : goal.invariant-loop-number
invariant-loop-number l = IsListOf l.set (λ h. (h < l.number) × AreNeighbours l.self l.general h)
