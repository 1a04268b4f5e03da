use Rattle.std.proofs.Common.{ℕ, ◌<◌, ◌^◌, w32, slice_index, arith}
use Rattle.std.proofs.lemmas.Simd.{Each1-get_or, below_from_Fits}
use Rattle.gen_ots.proofs.Swapped.{swapped}
use Rattle.gen_ots.proofs.lanes.swap_bytes.Goals as goal

pub returns : goal.returns
returns c j below =
    let all = below_from_Fits w32 c.args.x c.fits-x.1 in
    let fits : slice_index c.args.x j < 2 ^ 32 = Each1-get_or (λ (y : ℕ). y < 2 ^ 32) c.args.x j 0 (omega arith) all in
    rw (
      c.add-3.ensures j below,
      c.add.ensures j below,
      c.add-2.ensures j below,
      c.shift_left-lowest.ensures j below,
      c.shift_right-second.ensures j below,
      c.shift_left.ensures j below,
      c.shift_right.ensures j below,
      c.shift_right-third.ensures j below,
      c.shift_left-2.ensures j below,
      c.shift_right-2.ensures j below,
      c.shift_right-highest.ensures j below,
    ) (swapped (slice_index c.args.x j) fits)
