-- Signatures side by side: what the hasher of one of them is fed with.
use Rattle.std.proofs.Common.{◌≡◌, ℕ, zero, suc, ◌<◌, ◌+◌, Bool, List, [], ◌∷◌, ◌++◌, length, map, slice_index_or, refl, sym, ap, subst, ◌∙◌, arith}
use Rattle.std.proofs.lemmas.List.{get_or-map}
use Rattle.sha_lanes.specs.Hashers.{HoldsLane}
use Rattle.sha_lanes.specs.declared.words.TheConstants.{LANES}
use Rattle.sha_lanes.specs.declared.hashers.LaneHashers.{LaneHashers}
use Rattle.gen_ots.specs.declared.side_by_side.SignedDigest.{SignedDigest}
use Rattle.gen_ots.specs.SideBySide.{images_before, signed_value}
use Rattle.gen_ots.specs.OneTime.{bit_of, image, leaf_over, on_side}
use Rattle.gen_ots.specs.Signatures.{both_images, given_images, other_at, shown_at, signed_leaf_value}
use Rattle.gen_ots.proofs.Pairs.{given_images-next}

-- before the first bit
pub none_before : (xs : List SignedDigest) (j : ℕ) → j < length xs → slice_index_or (map (images_before 0) xs) j [] ≡ []
unfolding given_images
none_before [] j below = absurd (omega arith)
none_before (x ∷ xs) zero below = refl
none_before (x ∷ xs) (suc j) below = none_before xs j (omega arith)

-- behind the last bit
pub value_at : (xs : List SignedDigest) (j : ℕ) → j < length xs
    → leaf_over (slice_index_or (map (images_before 256) xs) j []) ≡ slice_index_or (map signed_value xs) j []
unfolding signed_leaf_value
value_at [] j below = absurd (omega arith)
value_at (x ∷ xs) zero below = refl
value_at (x ∷ xs) (suc j) below = value_at xs j (omega arith)

-- the bytes of the two halves of a lane, where the secret shown, the image given and the bit are those of a signature
pub lane_halves : (pairs digest : List ℕ) (n : ℕ) (one : Bool) (images others zeroth first : List ℕ)
    → one ≡ bit_of digest n → images ≡ image (shown_at pairs n) → others ≡ other_at pairs n
    → zeroth ≡ on_side one images others → first ≡ on_side one others images
    → zeroth ++ first ≡ both_images (shown_at pairs n) (other_at pairs n) (bit_of digest n)
lane_halves pairs digest n one images others zeroth first b s o z f =
    let on_zeroth = z ∙ (λ i. on_side (b i) (s i) (o i)) in
    let on_first = f ∙ (λ i. on_side (b i) (o i) (s i)) in
    λ i. on_zeroth i ++ on_first i

-- one bit more in a lane, where an element stands for those that there are not
lane_next : (xs : List SignedDigest) (j n : ℕ) (d : SignedDigest) (old new : LaneHashers) (halves : List ℕ) → length xs ≡ LANES → j < LANES
    → (let x = slice_index_or xs j d in halves ≡ both_images (shown_at x.signature.now n) (other_at x.signature.now n) (bit_of x.digest n))
    → ((m : List ℕ) → HoldsLane j old m → HoldsLane j new (m ++ halves))
    → HoldsLane j old (1 ∷ slice_index_or (map (images_before n) xs) j [])
    → HoldsLane j new (1 ∷ slice_index_or (map (images_before (n + 1)) xs) j [])
lane_next xs j n d old new halves wide below both update held =
    let x = slice_index_or xs j d in
    let before = get_or-map (images_before n) xs j d [] (omega (arith, wide)) in
    let after = get_or-map (images_before (n + 1)) xs j d [] (omega (arith, wide)) in
    let more : images_before n x ++ halves ≡ images_before (n + 1) x =
    ap (λ (h : List ℕ). images_before n x ++ h) both ∙ sym (given_images-next x.signature.now x.digest n (n + 1) (omega arith)) in
    let now = update (1 ∷ images_before n x) (subst (λ (m : List ℕ). HoldsLane j old (1 ∷ m)) before held) in
    subst (λ (m : List ℕ). HoldsLane j new (1 ∷ m)) (more ∙ sym after) now

-- one bit more in a lane
pub lane_more : (xs : List SignedDigest) (j n : ℕ) (old new : LaneHashers) (halves : List ℕ) → length xs ≡ LANES → j < LANES
    → ((d : SignedDigest) → (let x = slice_index_or xs j d in halves ≡ both_images (shown_at x.signature.now n) (other_at x.signature.now n) (bit_of x.digest n)))
    → ((m : List ℕ) → HoldsLane j old m → HoldsLane j new (m ++ halves))
    → HoldsLane j old (1 ∷ slice_index_or (map (images_before n) xs) j [])
    → HoldsLane j new (1 ∷ slice_index_or (map (images_before (n + 1)) xs) j [])
lane_more [] j n old new halves wide below both = absurd (omega (arith, wide))
lane_more (x ∷ xs) j n old new halves wide below both = lane_next (x ∷ xs) j n x old new halves wide below (both x)
