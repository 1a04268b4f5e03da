use Rattle.gen_types.proofs.BitSteps.{told_empty}
use Rattle.gen_types.proofs.sets.NumberSet.is_empty.Goals as goal

pub returns : goal.returns
returns g c = rw (← c.self.view_is) (told_empty c.self.inside.bits c.self.invariant)
