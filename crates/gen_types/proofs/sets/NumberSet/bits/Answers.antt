use Rattle.std.proofs.Common.{sym}
use Rattle.gen_types.specs.BitLaws.{bits_of-members_of}
use Rattle.gen_types.proofs.sets.NumberSet.bits.Goals as goal

pub returns : goal.returns
returns g c = rw (← c.self.view_is) (sym (bits_of-members_of c.self.inside.bits c.self.invariant))
