use Rattle.std.proofs.Common.{refl}
use Rattle.gen_ots.specs.Blocks.{half_rounds, half_round}
use Rattle.gen_ots.proofs.chacha.half_rounds.Goals as goal

pub returns : goal.returns
unfolding half_rounds half_round
returns c j below =
    rw (
      c.xor_rotate-b3.ensures j below,
      c.xor_rotate-b2.ensures j below,
      c.xor_rotate-b1.ensures j below,
      c.xor_rotate-b0.ensures j below,
      c.add-c3.ensures j below,
      c.add-c2.ensures j below,
      c.add-c1.ensures j below,
      c.add-c0.ensures j below,
      c.xor_rotate-d3.ensures j below,
      c.xor_rotate-d2.ensures j below,
      c.xor_rotate-d1.ensures j below,
      c.xor_rotate-d0.ensures j below,
      c.add-a3.ensures j below,
      c.add-a2.ensures j below,
      c.add-a1.ensures j below,
      c.add-a0.ensures j below,
    ) refl
