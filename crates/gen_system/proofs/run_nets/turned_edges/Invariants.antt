use Rattle.std.proofs.Common.{◌≡◌, take}
use Rattle.gen_system.specs.RunNets.{turned}
use Rattle.gen_system.proofs.run_nets.turned_edges.Given as goal

abbrev pub invariant-edges : goal.invariant-edges
invariant-edges l = l.moved.items ≡ turned l.n l.run (take l.edge-index l.edge-items)
