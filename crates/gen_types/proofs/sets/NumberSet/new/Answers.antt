use Rattle.std.proofs.Common.{refl}
use Rattle.gen_types.specs.Bits.{members_of}
use Rattle.gen_types.proofs.sets.NumberSet.new.Goals as goal

pub returns : goal.returns
unfolding members_of
returns g c = refl
