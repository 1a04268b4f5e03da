-- What a selection by the lanes of a mask gives.
use Rattle.std.proofs.Common.{◌≡◌, ℕ, ◌<◌, Bool, true, false, List, [], ◌∷◌, if◌then◌else◌, length, map, nat_eq, replicate, slice_index, slice_index_or, w32, arith, refl, ap, ◌∙◌}
use Rattle.std.proofs.lemmas.List.{get_or-map, length-map}
use Rattle.std.proofs.lemmas.Simd.{get_or-sel_l, tops_compared, zip2_splat}
use Rattle.std.specs.Int.{from_bool}
use Rattle.std.specs.Simd.Lanes.{sel_l, top, zip2}
use Rattle.sha2.specs.Sha256.{digest_bytes}
use Rattle.sha_lanes.specs.Lanes.{lane_at, lane_bytes}
use Rattle.sha_lanes.specs.declared.words.TheConstants.{LANES}
use Rattle.gen_ots.specs.OneTime.{on_side}

-- the lanes of the mask
abbrev mask : List ℕ → List Bool
mask bits = map (top 31) (zip2 (λ a b. if nat_eq a b then 4294967295 else 0) bits (replicate LANES 1))

-- a bit of the mask
mask-bit : (one : Bool) (n : ℕ) → n ≡ from_bool one → nat_eq n 1 ≡ one
mask-bit true n e = rw e refl
mask-bit false n e = rw e refl

pub selected : (ones : List Bool) (bits z f : List ℕ) → length bits ≡ LANES → length z ≡ LANES → length f ≡ LANES
    → ((j : ℕ) → j < LANES → slice_index bits j ≡ from_bool (slice_index_or ones j false))
    → (j : ℕ) → j < LANES → slice_index (sel_l (mask bits) f z) j
    ≡ (if slice_index_or ones j false then slice_index f j else slice_index z j)
selected ones bits z f wide wide_z wide_f are j below =
    let compared : mask bits ≡ map (λ n. nat_eq n 1) bits =
    tops_compared w32 nat_eq bits (replicate LANES 1) ∙ zip2_splat nat_eq bits LANES 1 wide in
    let long : length (map (λ n. nat_eq n 1) bits) ≡ LANES = length-map bits (λ (n : ℕ). nat_eq n 1) ∙ wide in
    let marked : slice_index_or (map (λ n. nat_eq n 1) bits) j false ≡ slice_index_or ones j false =
    get_or-map (λ (n : ℕ). nat_eq n 1) bits j 0 false (omega (arith, wide)) ∙ mask-bit _ _ (are j below) in
    ap (λ (m : List Bool). slice_index (sel_l m f z) j) compared
    ∙ get_or-sel_l (map (λ n. nat_eq n 1) bits) f z j 0 (omega (arith, long)) (omega (arith, wide_f)) (omega (arith, wide_z))
    ∙ ap (λ (one : Bool). if one then slice_index f j else slice_index z j) marked

-- a word of each of two lists, as a bit chooses
abbrev chooses : Bool → ℕ → List (List ℕ) → List (List ℕ) → List (List ℕ) → ℕ → Type 0
chooses one j r z f k = lane_at r k j ≡ (if one then lane_at f k j else lane_at z k j)

-- a lane whose words are chosen by one bit has the bytes of a whole lane
pub chosen_lane : (one : Bool) (j : ℕ) (r z f : List (List ℕ))
    → chooses one j r z f 0 → chooses one j r z f 1 → chooses one j r z f 2 → chooses one j r z f 3
    → chooses one j r z f 4 → chooses one j r z f 5 → chooses one j r z f 6 → chooses one j r z f 7
    → lane_bytes j r ≡ on_side one (lane_bytes j z) (lane_bytes j f)
unfolding on_side
chosen_lane true j r z f a b c d e g h k =
    λ i. digest_bytes (a i ∷ b i ∷ c i ∷ d i ∷ e i ∷ g i ∷ h i ∷ k i ∷ []) 8
chosen_lane false j r z f a b c d e g h k =
    λ i. digest_bytes (a i ∷ b i ∷ c i ∷ d i ∷ e i ∷ g i ∷ h i ∷ k i ∷ []) 8
