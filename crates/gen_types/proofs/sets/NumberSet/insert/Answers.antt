use Rattle.gen_types.proofs.BitSteps.{with_bit, told_contains, told_lacks}
use Rattle.gen_types.proofs.sets.NumberSet.insert.Goals as goal

pub returns-clause-members : goal.returns-clause-members
returns-clause-members g c = rw (← c.self.view_is, ← c.get-number.ensures.value) (with_bit c.self.inside.bits c.get-number.result c.get-number.ensures.below)

pub returns-clause-new : goal.returns-clause-new
returns-clause-new g c =
    rw (← c.self.view_is, ← c.get-number.ensures.value) (told_lacks _ _ (told_contains c.self.inside.bits c.get-number.result c.get-number.ensures.below))
