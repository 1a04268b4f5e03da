-- What rotations and whole states are in each lane.
use Rattle.std.proofs.Common.{◌≡◌, ℕ, zero, suc, ◌<◌, ◌+◌, ◌-◌, ◌*◌, ◌/◌, ◌%◌, ◌^◌, List, length, slice_index, bit_or, w32, arith, refl, ap, subst, ◌∙◌, replicate}
use Rattle.std.proofs.lemmas.List.{get_or-map}
use Rattle.std.proofs.lemmas.Simd.{zip2_splat, zip2_of_maps}
use Rattle.std.specs.Simd.Lanes.{zip2}
use Rattle.std.specs.Int.{rotate_left}
use Rattle.rand_chacha.specs.Block.{add32, block_word, double_rounds, initial_state}
use Rattle.rand_chacha.specs.Lanes.{lane, lane_at}
use Rattle.sha_lanes.specs.declared.words.TheConstants.{LANES}

-- what holds of each of four numbers
pub each_of_four : (P : ℕ → Type 0) → P 0 → P 1 → P 2 → P 3 → (k : ℕ) → k < 4 → P k
each_of_four P a b c d zero below = a
each_of_four P a b c d (suc zero) below = b
each_of_four P a b c d (suc (suc zero)) below = c
each_of_four P a b c d (suc (suc (suc zero))) below = d
each_of_four P a b c d (suc (suc (suc (suc k)))) below = absurd (omega arith)

-- what holds of the sixteen words, given in fours, holds of each
pub each_word : (P : ℕ → Type 0) → ((k : ℕ) → k < 4 → P (0 + k)) → ((k : ℕ) → k < 4 → P (4 + k))
    → ((k : ℕ) → k < 4 → P (8 + k)) → ((k : ℕ) → k < 4 → P (12 + k)) → (k : ℕ) → k < 16 → P k
each_word P a b c d k below =
    let whole : 4 * (k / 4) + k % 4 ≡ k = omega arith in
    let row = each_of_four (λ (r : ℕ). (i : ℕ) → i < 4 → P (4 * r + i)) a b c d (k / 4) (omega arith) in
    subst P whole (row (k % 4) (omega arith))

-- the bits that a shift to the left leaves, with those of a shift to the right
abbrev both : ℕ → ℕ → ℕ
both k x = bit_or (x * 2 ^ k % 2 ^ 32) (x / 2 ^ (32 - k))

pub rotated : (k : ℕ) → 0 < k → k < 32 → (x : List ℕ) (j : ℕ) → length x ≡ LANES → j < LANES
    → slice_index (zip2 bit_or
    (zip2 (λ y n. y * 2 ^ n % 2 ^ 32) x (replicate LANES k))
    (zip2 (λ y n. y / 2 ^ n) x (replicate LANES (32 - k)))) j
    ≡ rotate_left w32 (slice_index x j) k
rotated k some fits x j wide below =
    let left : k % 32 ≡ k = omega arith in
    let right : (32 - k) % 32 ≡ 32 - k = omega arith in
    let each = zip2_of_maps bit_or (λ (y : ℕ). y * 2 ^ k % 2 ^ 32) (λ (y : ℕ). y / 2 ^ (32 - k)) x
    (zip2_splat (λ y n. y * 2 ^ n % 2 ^ 32) x LANES k wide)
    (zip2_splat (λ y n. y / 2 ^ n) x LANES (32 - k) wide) in
    ap (λ (v : List ℕ). slice_index v j) each
    ∙ get_or-map (both k) x j 0 0 (omega arith)
    ∙ rw (left, right) refl

-- word k of a state
pub state-word : (x : List (List ℕ)) (j k : ℕ) → k < 16 → lane_at x k j ≡ slice_index (lane j x) k
state-word x j =
    each_word _ (each_of_four _ refl refl refl refl) (each_of_four _ refl refl refl refl)
    (each_of_four _ refl refl refl refl) (each_of_four _ refl refl refl refl)

-- the sum of the states after and before the rounds is the block
pub block-sum : (x y : List (List ℕ)) (key : List ℕ) (counter stream n j k : ℕ) → k < 16
    → lane j x ≡ double_rounds n (lane j y) → lane j y ≡ initial_state key counter stream
    → add32 (lane_at x k j) (lane_at y k j) ≡ block_word n key counter stream k
unfolding block_word
block-sum x y key counter stream n j k below after before =
    let w = λ (s : List ℕ). slice_index s k in
    (λ i. add32 (state-word x j k below i) (state-word y j k below i))
    ∙ (λ i. add32 (w (after i)) (w (before i)))
    ∙ (λ i. add32 (w (double_rounds n (before i))) (w (initial_state key counter stream)))
