use Rattle.std.proofs.Common.{◌≡◌, ℕ, ◌*◌, ◌+◌, ◌∷◌, arith, refl, ap, ◌∙◌}
use Rattle.sha_lanes.specs.Lanes.{lane_bytes}
use Rattle.gen_ots.specs.OneTime.{image, first_images, key_leaf_value}
use Rattle.gen_ots.specs.Secrets.{KeyName, secret_at, secret_block, secret_of}
use Rattle.gen_ots.proofs.Pairs.{first_images-both}
use Rattle.gen_ots.proofs.Words.{IsOf, low-of, high-of}
use Rattle.gen_ots.proofs.keys.leaf_values.Goals as goal

pub bits-init : goal.bits-init
unfolding first_images
bits-init c = c.new-hashers.ensures

pub bits-preserved : goal.bits-preserved
bits-preserved c j below =
    let k : KeyName = record { seed = c.args.seed.now; height = c.args.height; leaf = c.args.first + j } in
    let n = c.bits.bit in
    let same : IsOf k c.stream_of-stream.result.0 c.stream_of-stream.result.1 k.leaf = (c.stream_of-stream.ensures.key, c.stream_of-stream.ensures.number, refl) in
    let block = secret_block k.leaf n in
    let low_place : 16 * (c.block_of-block.result + 256 * j) + 8 * 0 ≡ 16 * block = omega (arith, c.block_of-block.ensures) in
    let high_place : 16 * (c.block_of-block.result + 256 * j) + 8 * 1 ≡ 16 * block + 8 = omega (arith, c.block_of-block.ensures) in
    let at = λ (b : ℕ). secret_at c.stream_of-stream.result.0 c.stream_of-stream.result.1 b in
    let low : lane_bytes j c.images_in_lanes-low.result ≡ image (secret_of k n 0)
    = c.images_in_lanes-low.ensures j below ∙ ap image (c.secrets_on.ensures j below _ _ _ (c.blocks_from-blocks.ensures j below) ∙ ap at low_place
    ∙ low-of k n _ _ _ same) in
    let high : lane_bytes j c.images_in_lanes-high.result ≡ image (secret_of k n 1)
    = c.images_in_lanes-high.ensures j below ∙ ap image (c.secrets_on-in-bits.ensures j below _ _ _ (c.blocks_from-blocks.ensures j below) ∙ ap at high_place
    ∙ high-of k n _ _ _ same) in
    rw (low, high, ← first_images-both k n) at (c.update.ensures j below (1 ∷ first_images k n) (c.bits.invariant j below))

pub returns : goal.returns
unfolding key_leaf_value
returns c j below =
    let all : c.bits.bit ≡ 256 = omega arith in
    c.finalize.ensures j below (1 ∷ first_images (record { seed = c.args.seed.now; height = c.args.height; leaf = c.args.first + j }) 256)
    (rw all at (c.bits.invariant j below))
