use Rattle.std.proofs.Common.{◌≡◌, ℕ, bit_xor, length, ap, ◌∙◌, arith}
use Rattle.std.specs.Int.{w32, rotate_left}
use Rattle.std.specs.Simd.Lanes.{zip2}
use Rattle.std.proofs.lemmas.Simd.{get_or-zip2, length-zip2}
use Rattle.sha_lanes.specs.declared.words.TheConstants.{LANES}
use Rattle.gen_ots.proofs.Blocks.{rotated}
use Rattle.gen_ots.proofs.chacha.xor_rotate.Goals as goal

pub returns : goal.returns
returns c j below =
    let x = c.args.x in
    let y = c.args.y in
    let wide : length (zip2 bit_xor x y) ≡ LANES = length-zip2 bit_xor x y (omega (arith, c.fits-x.0, c.fits-y.0)) ∙ c.fits-x.0 in
    rotated c.args.count c.requires.some c.requires.fits (zip2 bit_xor x y) j wide below
    ∙ ap (λ (v : ℕ). rotate_left w32 v c.args.count)
    (get_or-zip2 bit_xor x y j 0 0 0 (omega (arith, c.fits-x.0)) (omega (arith, c.fits-y.0)))
