use Rattle.std.proofs.Common.{arith}
use Rattle.gen_general.proofs.Bending.{xor_flips}
use Rattle.gen_general.proofs.scripted.flip_top_bit.Goals as goal

pub returns : goal.returns
returns c = xor_flips c.args.byte (omega (arith, c.ranges.byte.fits))
