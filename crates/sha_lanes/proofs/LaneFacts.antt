-- What an operation on vectors does in each lane.
use Rattle.std.proofs.Common.{◌≡◌, ℕ, ◌<◌, ◌-◌, ◌*◌, ◌/◌, ◌%◌, ◌^◌, List, [], ◌∷◌, length, slice_index, slice_index_or, bit_or, w32, Fits, arith, refl, ap, ◌∙◌, replicate, ◌≢◌, ◌+◌, slice_set, sym, subst, inl, inr}
use Rattle.std.proofs.lemmas.List.{length-map, get_or-map, get_or-replicate, get_or-set_same, get_or-set_other}
use Rattle.std.proofs.lemmas.Bool.{cases_lt}
use Rattle.std.proofs.Math.ListN.{get_or-map as get_or-map-default}
use Rattle.std.proofs.lemmas.Simd.{Each1-get_or, below_from_Fits, zip2_splat, zip2_of_maps}
use Rattle.std.specs.Simd.Lanes.{Each1, zip2}
use Rattle.std.specs.Int.{rotate_right}
use Rattle.sha_lanes.specs.declared.words.TheConstants.{LANES}
use Rattle.sha_lanes.specs.Lanes.{lane, lane_at, state}

-- each lane of a splat
pub lane_of_splat : (x j : ℕ) → j < LANES → slice_index (replicate LANES x) j ≡ x
lane_of_splat x j below = get_or-replicate LANES j x 0 below

-- the same bytes in each lane
pub lane_of_copies : (x : List ℕ) (j : ℕ) → j < LANES → slice_index_or (replicate LANES x) j [] ≡ x
lane_of_copies x j below = get_or-replicate LANES j x [] below

-- each lane has a word of 32 bits
pub lane_below : (x : List ℕ) (j : ℕ) → length x ≡ LANES → Each1 (Fits w32) x → j < LANES → slice_index x j < 2 ^ 32
lane_below x j width fit below =
    Each1-get_or (λ (y : ℕ). y < 2 ^ 32) x j 0 (omega arith) (below_from_Fits w32 x fit)

-- a vector and a splat
pub lane_with_splat : (f : ℕ → ℕ → ℕ) (x : List ℕ) (k j : ℕ) → length x ≡ LANES → j < LANES
    → slice_index (zip2 f x (replicate LANES k)) j ≡ f (slice_index x j) k
lane_with_splat f x k j width below =
    ap (λ (v : List ℕ). slice_index v j) (zip2_splat f x LANES k width)
    ∙ get_or-map (λ (y : ℕ). f y k) x j 0 0 (omega arith)

-- the bits that a shift to the right leaves, with those of a shift to the left
abbrev both_shifts : ℕ → ℕ → ℕ
both_shifts k x = bit_or (x / 2 ^ k) (x * 2 ^ (32 - k) % 2 ^ 32)

pub lane_of_shifts : (k : ℕ) → 0 < k → k < 32 → (x : List ℕ) (j : ℕ) → length x ≡ LANES → j < LANES
    → slice_index (zip2 bit_or
    (zip2 (λ y n. y / 2 ^ n) x (replicate LANES k))
    (zip2 (λ y n. y * 2 ^ n % 2 ^ 32) x (replicate LANES (32 - k)))) j
    ≡ rotate_right w32 (slice_index x j) k
lane_of_shifts k low high x j width below =
    let right : k % 32 ≡ k = omega arith in
    let left : (32 - k) % 32 ≡ 32 - k = omega arith in
    let each = zip2_of_maps bit_or (λ (y : ℕ). y / 2 ^ k) (λ (y : ℕ). y * 2 ^ (32 - k) % 2 ^ 32) x
    (zip2_splat (λ y n. y / 2 ^ n) x LANES k width)
    (zip2_splat (λ y n. y * 2 ^ n % 2 ^ 32) x LANES (32 - k) width) in
    ap (λ (v : List ℕ). slice_index v j) each
    ∙ get_or-map (both_shifts k) x j 0 0 (omega arith)
    ∙ rw (right, left) refl

-- word k of a lane
pub lane-word : (w : List (List ℕ)) (k j : ℕ) → slice_index (lane j w) k ≡ lane_at w k j
lane-word w k j = get_or-map-default (λ (v : List ℕ). slice_index v j) w k []

pub length-lane : (w : List (List ℕ)) (j : ℕ) → length (lane j w) ≡ length w
length-lane w j = length-map w (λ (v : List ℕ). slice_index v j)

-- a state of eight splats, in a lane
pub state_of_splats : (a b c d e f g h j : ℕ) → j < LANES
    → state j (replicate LANES a ∷ replicate LANES b ∷ replicate LANES c ∷ replicate LANES d
    ∷ replicate LANES e ∷ replicate LANES f ∷ replicate LANES g ∷ replicate LANES h ∷ [])
    ≡ a ∷ b ∷ c ∷ d ∷ e ∷ f ∷ g ∷ h ∷ []
state_of_splats a b c d e f g h j below =
    let at = λ (x : ℕ). lane_of_splat x j below in
    λ i. at a i ∷ at b i ∷ at c i ∷ at d i ∷ at e i ∷ at f i ∷ at g i ∷ at h i ∷ []

-- a fact of each lane up to i, with the one at i written anew
pub each_more : {X : Type 0} (P : ℕ → X → Type 0) (xs : List X) (i : ℕ) (x : X) → i < length xs → P i x
    → ((k : ℕ) → k < i → (d : X) → P k (slice_index_or xs k d))
    → (k : ℕ) → k < i + 1 → (d : X) → P k (slice_index_or (slice_set xs i x) k d)
each_more P xs i x inside here before k below d = elim (cases_lt k i) [
  | inl lt ↦
      let apart : k ≢ i = omega arith in
      subst (P k) (sym (get_or-set_other xs i k x d apart)) (before k lt d)
  | inr ge ↦
      let at : k ≡ i = omega arith in
      subst (λ (m : ℕ). P m (slice_index_or (slice_set xs i x) m d)) (sym at)
      (subst (P i) (sym (get_or-set_same xs i x d inside)) here)
]
