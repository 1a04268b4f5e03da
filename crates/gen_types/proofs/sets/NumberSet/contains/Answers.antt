use Rattle.gen_types.proofs.BitSteps.{told_contains}
use Rattle.gen_types.proofs.sets.NumberSet.contains.Goals as goal

pub returns : goal.returns
returns g c = rw (← c.self.view_is, ← c.get.ensures.value) (told_contains c.self.inside.bits c.get.result c.get.ensures.below)
