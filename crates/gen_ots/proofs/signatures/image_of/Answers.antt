use Rattle.std.proofs.Common.{◌≡◌, ℕ, ◌<◌, ◌+◌, ◌*◌, List, [], ◌∷◌, ◌++◌, replicate, ap, subst, ◌∙◌, arith}
use Rattle.sha_lanes.specs.Lanes.{lane_bytes}
use Rattle.sha_lanes.specs.One.{HoldsOne}
use Rattle.sha_lanes.specs.declared.words.TheConstants.{LANES}
use Rattle.gen_ots.specs.OneTime.{image, on_side}
use Rattle.gen_ots.specs.Signatures.{given_images, other_at, shown_at, signed_leaf_value}
use Rattle.gen_ots.proofs.Filled.{none_filled, one_filled}
use Rattle.gen_ots.proofs.Pairs.{given_of_bit, given-grown}
use Rattle.gen_ots.proofs.signatures.image_of.Goals as goal

pub turns-init : goal.turns-init
unfolding given_images
turns-init c = c.new-hasher.ensures

pub lanes-init : goal.lanes-init
lanes-init c = (
  none_filled (λ (k : ℕ). shown_at c.as_bytes-pairs.result.now (LANES * c.turns.turn + k)) (replicate 32 0),
  none_filled (λ (k : ℕ). other_at c.as_bytes-pairs.result.now (LANES * c.turns.turn + k)) (replicate 32 0),
)

pub lanes-preserved : goal.lanes-preserved
lanes-preserved c = (
  one_filled (λ (k : ℕ). shown_at c.as_bytes-pairs.result.now (LANES * c.turns.turn + k)) c.lanes.j c.lanes.secrets _ (omega arith) c.pair_at.ensures.secret c.lanes.invariant.0,
  one_filled (λ (k : ℕ). other_at c.as_bytes-pairs.result.now (LANES * c.turns.turn + k)) c.lanes.j c.lanes.others _ (omega arith) c.pair_at.ensures.image c.lanes.invariant.1,
)

pub turns-preserved : goal.turns-preserved
turns-preserved c =
    let pairs = c.as_bytes-pairs.result.now in
    let digest = c.args.digest.now in
    let n = LANES * c.turns.turn in
    let z = c.chosen_in_lanes-zeroth.result in
    let f = c.chosen_in_lanes-first.result in
    let both : (j : ℕ) → j < LANES → lane_bytes j z ++ lane_bytes j f ≡ given_of_bit pairs digest (n + j) = λ j below.
    let one = c.are_ones-ones.ensures j below in
    let s = c.images_in_lanes-images.ensures j below ∙ ap image (c.to_words.ensures j below ∙ c.lanes.invariant.0.1 j (omega arith) []) in
    let o = c.to_words-others.ensures j below ∙ c.lanes.invariant.1.1 j (omega arith) [] in
    let on_zeroth = c.chosen_in_lanes-zeroth.ensures j below ∙ (λ i. on_side (one i) (s i) (o i)) in
    let on_first = c.chosen_in_lanes-first.ensures j below ∙ (λ i. on_side (one i) (o i) (s i)) in
    λ i. on_zeroth i ++ on_first i in
    let next : n + LANES ≡ LANES * (c.turns.turn + 1) = omega arith in
    let held = subst (λ (x : List ℕ). HoldsOne c.update.new.self (1 ∷ x)) (given-grown pairs digest n LANES z f both)
    (c.update.ensures (1 ∷ given_images pairs digest n) c.turns.invariant) in
    rw next at held

pub returns : goal.returns
unfolding signed_leaf_value
returns c =
    let all : LANES * c.turns.turn ≡ 256 = omega arith in
    let m = c.finalize.ensures (1 ∷ given_images c.as_bytes-pairs.result.now c.args.digest.now 256) (rw all at c.turns.invariant) in
    rw c.as_bytes-pairs.ensures.value at m
