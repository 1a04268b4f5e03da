-- How the hasher of one message follows it.
use Rattle.std.proofs.Common.{◌≡◌, ℕ, zero, suc, ◌*◌, ◌-◌, ap, ◌+◌, ◌%◌, ◌^◌, List, [], ◌∷◌, ◌++◌, length, slice_index, slice_index_or, ◌<◌, arith, refl, sym, subst, ◌∙◌, length-append, append_assoc, append-nil}
use Rattle.sha2.specs.Sha256.{IsAbsorbed, compress, initial_hash_256, hash_after}
use Rattle.sha_lanes.specs.Lanes.{block, lane_at, lane_bytes}
use Rattle.sha_lanes.specs.Hashers.{HoldsLane, state_of}
use Rattle.sha_lanes.specs.One.{HoldsOne, all_blocks, blocks_up_to, compressed}
use Rattle.sha_lanes.specs.declared.words.TheConstants.{LANES}
use Rattle.sha_lanes.specs.declared.hashers.LaneHashers.{LaneHashers}
use Rattle.sha_lanes.specs.declared.one.OneHasher.{OneHasher}
use Rattle.sha_lanes.proofs.HalfBytes.{last_of_lane, length-lane_bytes}
use Rattle.sha_lanes.proofs.Taken.{halves_taken}

-- the two halves in a lane
abbrev halves : ℕ → List (List ℕ) → List (List ℕ) → List ℕ
halves j f s = lane_bytes j f ++ lane_bytes j s

-- the hash value after the block of a carried byte and the halves in a lane
abbrev pub after_lane : List ℕ → ℕ → ℕ → List (List ℕ) → List (List ℕ) → List ℕ
after_lane h c j f s = compress h (block (c % 2 ^ 8) (lane_bytes j f) (lane_bytes j s))

length-halves : (j : ℕ) (f s : List (List ℕ)) → length (halves j f s) ≡ 64
length-halves j f s =
    omega (arith, length-append (lane_bytes j f) (lane_bytes j s), length-lane_bytes f j, length-lane_bytes s j)

-- one block
lane_taken : (ini h : List ℕ) (c : ℕ) (m : List ℕ) (j : ℕ) (f s : List (List ℕ)) → length m % 64 ≡ 1
    → IsAbsorbed ini h (c % 2 ^ 8 ∷ []) m
    → IsAbsorbed ini (after_lane h c j f s) (lane_at s 7 j % 2 ^ 8 ∷ []) (m ++ halves j f s)
lane_taken ini h c m j f s one held =
    subst (λ (x : ℕ). IsAbsorbed ini (after_lane h c j f s) (x ∷ []) (m ++ halves j f s)) (sym (last_of_lane s j))
    (halves_taken ini h (c % 2 ^ 8) m (lane_bytes j f) (lane_bytes j s) one (length-lane_bytes f j) (length-lane_bytes s j) held)

-- the word that is carried into the block of a lane
abbrev pub carry_before : ℕ → List (List ℕ) → ℕ → ℕ
carry_before c s zero = c
carry_before c s (suc n) = lane_at s 7 n

-- what is carried into each lane
pub carried_into : (c : ℕ) (s : List (List ℕ)) (w : List ℕ) → slice_index w 0 ≡ c
    → ((j : ℕ) → j + 1 < LANES → slice_index w (j + 1) ≡ slice_index (slice_index_or s 7 []) j)
    → (j : ℕ) → j < LANES → slice_index w j ≡ carry_before c s j
carried_into c s w first others zero below = first
carried_into c s w first others (suc j) below =
    let next : suc j ≡ j + 1 = omega arith in
    rw next (others j (omega arith))

-- the block of a lane
abbrev pub block_at : ℕ → List (List ℕ) → List (List ℕ) → ℕ → List ℕ
block_at c f s j = block (carry_before c s j % 2 ^ 8) (lane_bytes j f) (lane_bytes j s)

-- a block more
pub compressed_more : (h : List ℕ) (b : ℕ → List ℕ) (n : ℕ) (v w : List ℕ) → v ≡ compressed h b n
    → w ≡ compress v (b n) → w ≡ compressed h b (n + 1)
unfolding compressed
compressed_more h b n v w before here =
    let next : n + 1 ≡ suc n = omega arith in
    rw next (here ∙ ap (λ (x : List ℕ). compress x (b n)) before)

length-blocks_up_to : (n : ℕ) (f s : List (List ℕ)) → length (blocks_up_to n f s) ≡ 64 * n
unfolding blocks_up_to
length-blocks_up_to zero f s = refl
length-blocks_up_to (suc n) f s =
    omega (arith, length-append (blocks_up_to n f s) (halves n f s), length-halves n f s, length-blocks_up_to n f s)

-- the blocks of the first n lanes
lanes_taken : (ini h : List ℕ) (c : ℕ) (m : List ℕ) (f s : List (List ℕ)) (n : ℕ) → length m % 64 ≡ 1
    → IsAbsorbed ini h (c % 2 ^ 8 ∷ []) m
    → IsAbsorbed ini (compressed h (block_at c f s) n) (carry_before c s n % 2 ^ 8 ∷ []) (m ++ blocks_up_to n f s)
unfolding compressed blocks_up_to
lanes_taken ini h c m f s zero one held =
    subst (λ (x : List ℕ). IsAbsorbed ini h (c % 2 ^ 8 ∷ []) x) (sym (append-nil m)) held
lanes_taken ini h c m f s (suc n) one held =
    let before = blocks_up_to n f s in
    let h1 = compressed h (block_at c f s) n in
    let ends : length (m ++ before) % 64 ≡ 1 = omega (arith, length-append m before, length-blocks_up_to n f s) in
    subst (λ (x : List ℕ). IsAbsorbed ini (after_lane h1 (carry_before c s n) n f s) (lane_at s 7 n % 2 ^ 8 ∷ []) x)
    (append_assoc m before (halves n f s))
    (lane_taken ini h1 (carry_before c s n) (m ++ before) n f s ends (lanes_taken ini h c m f s n one held))

pub one_new : (s : OneHasher) (p : ℕ) → s.total ≡ 1 → s.hash ≡ initial_hash_256 → s.carry % 2 ^ 8 ≡ p
    → HoldsOne s (p ∷ [])
unfolding HoldsOne hash_after
one_new s p t h c = (t, refl, (h, rw c refl))

pub one_more : (o n : OneHasher) (m : List ℕ) (f s : List (List ℕ)) → n.total ≡ (o.total + 64 * LANES) % 2 ^ 64
    → n.hash ≡ compressed o.hash (block_at o.carry f s) LANES → n.carry ≡ lane_at s 7 (LANES - 1) → HoldsOne o m
    → HoldsOne n (m ++ all_blocks f s)
unfolding HoldsOne
one_more o n m f s t h c held =
    let one : length m % 64 ≡ 1 = held.1 in
    let len : length (m ++ all_blocks f s) ≡ length m + 64 * LANES = omega (arith, length-append m (all_blocks f s), length-blocks_up_to LANES f s) in
    let total : o.total ≡ length m % 2 ^ 64 = held.0 in
    let taken = lanes_taken initial_hash_256 o.hash o.carry m f s LANES one held.2 in
    (omega arith, omega arith, rw (h, c) taken)

-- what one hasher holds, hashers that are alike hold in each lane
pub one_in_lane : (o : OneHasher) (s : LaneHashers) (j : ℕ) (m : List ℕ) → s.total ≡ o.total
    → state_of j s ≡ o.hash → slice_index s.carry j ≡ o.carry → HoldsOne o m → HoldsLane j s m
unfolding HoldsOne HoldsLane
one_in_lane o s j m t h c held = (t ∙ held.0, held.1, rw (h, c) held.2)
