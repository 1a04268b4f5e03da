use Rattle.gen_system.proofs.RunNetLaws.{edge_below}
use Rattle.gen_system.proofs.run_nets.turned_edges.Goals as goal

pub general_in_turn-first-requires-clause-below : goal.general_in_turn-first-requires-clause-below
general_in_turn-first-requires-clause-below c =
    rw (c.get.ensures.value, c.generals-n.ensures.value, c.edge-item.is) (edge_below c.args.net.now c.generals-n.ensures.network c.edges-edge-items.result.now c.edges-edge-items.ensures c.edges.edge-index c.edge-item.result c.edges-test.true).0

pub general_in_turn-second-requires-clause-below : goal.general_in_turn-second-requires-clause-below
general_in_turn-second-requires-clause-below c =
    rw (c.get-in-edges.ensures.value, c.generals-n.ensures.value, c.edge-item.is) (edge_below c.args.net.now c.generals-n.ensures.network c.edges-edge-items.result.now c.edges-edge-items.ensures c.edges.edge-index c.edge-item.result c.edges-test.true).1
