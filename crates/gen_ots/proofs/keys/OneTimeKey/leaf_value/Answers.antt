use Rattle.std.proofs.Common.{rules, ◌≡◌, ℕ, ◌<◌, ◌+◌, ◌*◌, List, ◌∷◌, ◌++◌, arith, ap, subst, ◌∙◌}
use Rattle.sha_lanes.specs.Lanes.{lane_bytes}
use Rattle.sha_lanes.specs.One.{HoldsOne}
use Rattle.sha_lanes.specs.declared.words.TheConstants.{LANES}
use Rattle.gen_ots.specs.OneTime.{image, first_images, key_leaf_value}
use Rattle.gen_ots.specs.Secrets.{secret_at, secret_block}
use Rattle.gen_ots.proofs.Pairs.{images_of_bit, images-grown}
use Rattle.gen_ots.proofs.Words.{IsOf, low-of, high-of}
use Rattle.gen_ots.proofs.keys.OneTimeKey.leaf_value.Goals as goal

pub turns-init : goal.turns-init
unfolding first_images
turns-init c = c.new-hasher.ensures

pub turns-preserved : goal.turns-preserved
turns-preserved c =
    let k = c.args.self.now.name in
    let n = LANES * c.turns.turn in
    let low = c.images_in_lanes-low.result in
    let high = c.images_in_lanes-high.result in
    let same : IsOf k c.stream_of-stream.result.0 c.stream_of-stream.result.1 c.self.inside.leaf = search rules in
    let both : (j : ℕ) → j < LANES → lane_bytes j low ++ lane_bytes j high ≡ images_of_bit k (n + j) = λ j below.
    let block = secret_block c.self.inside.leaf (n + j) in
    let low_place : 16 * (c.block_of-first.result + 1 * j) + 8 * 0 ≡ 16 * block = omega (arith, c.block_of-first.ensures) in
    let high_place : 16 * (c.block_of-first.result + 1 * j) + 8 * 1 ≡ 16 * block + 8 = omega (arith, c.block_of-first.ensures) in
    let at = λ (k : ℕ). secret_at c.stream_of-stream.result.0 c.stream_of-stream.result.1 k in
    let l = c.images_in_lanes-low.ensures j below
    ∙ ap image (c.secrets_on.ensures j below _ _ _ (c.blocks_from-blocks.ensures j below) ∙ ap at low_place ∙ low-of k (n + j) _ _ _ same) in
    let h = c.images_in_lanes-high.ensures j below
    ∙ ap image (c.secrets_on-in-turns.ensures j below _ _ _ (c.blocks_from-blocks.ensures j below) ∙ ap at high_place ∙ high-of k (n + j) _ _ _ same) in
    λ i. l i ++ h i in
    let next : n + LANES ≡ LANES * (c.turns.turn + 1) = omega arith in
    let more = images-grown k n LANES low high both ∙ ap (first_images k) next in
    subst (λ (x : List ℕ). HoldsOne c.update.new.self (1 ∷ x)) more (c.update.ensures (1 ∷ first_images k n) c.turns.invariant)

pub returns : goal.returns
unfolding key_leaf_value
returns c =
    let all : LANES * c.turns.turn ≡ 256 = omega arith in
    c.finalize.ensures (1 ∷ first_images c.args.self.now.name 256) (rw all at c.turns.invariant)
