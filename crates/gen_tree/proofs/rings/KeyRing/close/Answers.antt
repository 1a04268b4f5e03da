use Rattle.gen_tree.proofs.rings.KeyRing.close.Goals as goal

pub returns-clause-below : goal.returns-clause-below
returns-clause-below c = rw (← c.self.view_is) c.self.invariant
