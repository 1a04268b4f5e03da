use Rattle.gen_types.proofs.BitSteps.{told_same}
use Rattle.gen_types.proofs.sets.NumberSetPartialEq.eq.Goals as goal

pub returns : goal.returns
returns g c = rw (← c.self.view_is, ← c.other.view_is) (told_same c.self.inside.bits c.other.inside.bits c.self.invariant c.other.invariant)
