use Rattle.gen_plan.proofs.graph.Graph.neighbours.Goals as goal

pub returns : goal.returns
returns c = rw (c.from_bits.ensures, ← c.self.view_is, c.from.ensures, ← c.get.ensures.value) (c.self.invariant.neighbours c.get.result c.get.ensures.below)
