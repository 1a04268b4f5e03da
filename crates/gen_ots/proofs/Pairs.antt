-- The lengths of secrets and images, and the images that a signature gives back.
use Rattle.std.proofs.Common.{◌≡◌, ℕ, zero, suc, ◌<◌, ◌+◌, ◌*◌, Bool, true, false, List, [], ◌∷◌, ◌++◌, length, take, drop, slice_index_or, refl, sym, ap, ◌∙◌, add-one, append_assoc, length-append, arith}
use Rattle.std.proofs.lemmas.List.{take_at, drop_at, append-nil}
use Rattle.rand_chacha.specs.ChaCha.{key_of}
use Rattle.sha2.proofs.Facts256.{length-sha256}
use Rattle.sha_lanes.specs.Lanes.{lane_bytes}
use Rattle.sha_lanes.specs.One.{blocks_up_to}
use Rattle.gen_ots.specs.OneTime.{image, leaf_over, bit_of, first_images, key_leaf_value, on_side}
use Rattle.gen_ots.specs.Signatures.{signed_pair, first_pairs, pairs_up_to, signature_of, both_images, given_images, other_at, shown_at, signed_leaf_value}
use Rattle.gen_ots.specs.Secrets.{KeyName, eight_words, secret_at, secret_of, secret_place, secret_stream}

pub length-secret_at : (key : List ℕ) (stream place : ℕ) → length (secret_at key stream place) ≡ 32
unfolding secret_at eight_words
length-secret_at key stream place = refl

pub length-image : (secret : List ℕ) → length (image secret) ≡ 32
length-image secret = length-sha256 (0 ∷ secret)

pub length-on_side : (one : Bool) (x y : List ℕ) → length x ≡ 32 → length y ≡ 32 → length (on_side one x y) ≡ 32
unfolding on_side
length-on_side true x y a b = b
length-on_side false x y a b = a

length-signed_pair : (k : KeyName) (n : ℕ) (one : Bool) → length (signed_pair k n one) ≡ 64
length-signed_pair k n one =
    let shown = on_side one (secret_of k n 0) (secret_of k n 1) in
    let hidden = on_side one (secret_of k n 1) (secret_of k n 0) in
    let s : length shown ≡ 32 = length-on_side one _ _ (length-secret_at (key_of k.seed) (secret_stream k.height) (secret_place k.leaf n 0)) (length-secret_at (key_of k.seed) (secret_stream k.height) (secret_place k.leaf n 1)) in
    let o : length (image hidden) ≡ 32 = length-image hidden in
    let e = length-append shown (image hidden) in
    omega (arith, e, s, o)

pub length-first_pairs : (k : KeyName) (digest : List ℕ) (n : ℕ) → length (first_pairs k digest n) ≡ 64 * n
unfolding first_pairs
length-first_pairs k digest zero = refl
length-first_pairs k digest (suc n) =
    let ih = length-first_pairs k digest n in
    let one = length-signed_pair k n (bit_of digest n) in
    let both = length-append (first_pairs k digest n) (signed_pair k n (bit_of digest n)) in
    omega (arith, ih, one, both)

-- the two halves of a pair that stands after n bytes
shown-at : (n : ℕ) (before shown other rest : List ℕ) → length before ≡ n → length shown ≡ 32
    → take 32 (drop n (before ++ ((shown ++ other) ++ rest))) ≡ shown
shown-at n before shown other rest e s =
    rw (drop_at before ((shown ++ other) ++ rest) n e, append_assoc shown other rest, take_at shown (other ++ rest) 32 s) refl

other-at : (n : ℕ) (before shown other rest : List ℕ) → length before ≡ n → length shown ≡ 32 → length other ≡ 32
    → take 32 (drop (n + 32) (before ++ ((shown ++ other) ++ rest))) ≡ other
other-at n before shown other rest e s o =
    let front : length (before ++ shown) ≡ n + 32 = omega (arith, length-append before shown) in
    let cut : before ++ ((shown ++ other) ++ rest) ≡ (before ++ shown) ++ (other ++ rest) = simp append_assoc in
    rw (cut, drop_at (before ++ shown) (other ++ rest) (n + 32) front, take_at other rest 32 o) refl

-- both images, from the image of the secret shown and that of the other one
both_images-on_side : (x y : List ℕ) (one : Bool) → both_images (on_side one x y) (image (on_side one y x)) one ≡ image x ++ image y
unfolding on_side
both_images-on_side x y true = refl
both_images-on_side x y false = refl

-- a pair gives back the images of its secrets
pair-images : (k : KeyName) (n : ℕ) (one : Bool) (before rest : List ℕ) → length before ≡ 64 * n
    → both_images (take 32 (drop (64 * n) (before ++ (signed_pair k n one ++ rest)))) (take 32 (drop (64 * n + 32) (before ++ (signed_pair k n one ++ rest)))) one
    ≡ image (secret_of k n 0) ++ image (secret_of k n 1)
pair-images k n one before rest e =
    let x = secret_of k n 0 in
    let y = secret_of k n 1 in
    let s : length (on_side one x y) ≡ 32 = length-on_side one x y (length-secret_at (key_of k.seed) (secret_stream k.height) (secret_place k.leaf n 0)) (length-secret_at (key_of k.seed) (secret_stream k.height) (secret_place k.leaf n 1)) in
    let o : length (image (on_side one y x)) ≡ 32 = length-image (on_side one y x) in
    ap (λ (z : List ℕ). both_images z (take 32 (drop (64 * n + 32) (before ++ (signed_pair k n one ++ rest)))) one) (shown-at (64 * n) before (on_side one x y) (image (on_side one y x)) rest e s)
    ∙ ap (λ (z : List ℕ). both_images (on_side one x y) z one) (other-at (64 * n) before (on_side one x y) (image (on_side one y x)) rest e s o)
    ∙ both_images-on_side x y one

-- one more bit
given_images-suc : (pairs digest : List ℕ) (n : ℕ) → given_images pairs digest (suc n)
    ≡ given_images pairs digest n ++ both_images (take 32 (drop (64 * n) pairs)) (take 32 (drop (64 * n + 32) pairs)) (bit_of digest n)
unfolding given_images
given_images-suc pairs digest n = refl

first_pairs-suc : (k : KeyName) (digest : List ℕ) (n : ℕ) → first_pairs k digest (suc n) ≡ first_pairs k digest n ++ signed_pair k n (bit_of digest n)
unfolding first_pairs
first_pairs-suc k digest n = refl

pub first_images-suc : (k : KeyName) (n : ℕ) → first_images k (suc n) ≡ first_images k n ++ image (secret_of k n 0) ++ image (secret_of k n 1)
unfolding first_images
first_images-suc k n = refl

given_images-zero : (k : KeyName) (pairs digest : List ℕ) → given_images pairs digest 0 ≡ first_images k 0
unfolding given_images first_images
given_images-zero k pairs digest = refl

-- the images that the first n pairs of a signature by a key give are the key's
pub given_images-first_pairs : (k : KeyName) (digest : List ℕ) (n : ℕ) (rest : List ℕ) → given_images (first_pairs k digest n ++ rest) digest n ≡ first_images k n
given_images-first_pairs k digest zero rest = given_images-zero k (first_pairs k digest 0 ++ rest) digest
given_images-first_pairs k digest (suc n) rest =
    let pair = signed_pair k n (bit_of digest n) in
    let whole = first_pairs k digest n ++ (pair ++ rest) in
    let cut : first_pairs k digest (suc n) ++ rest ≡ whole = rw (first_pairs-suc k digest n) (append_assoc (first_pairs k digest n) pair rest) in
    let ih : given_images whole digest n ≡ first_images k n = given_images-first_pairs k digest n (pair ++ rest) in
    let images = pair-images k n (bit_of digest n) (first_pairs k digest n) rest (length-first_pairs k digest n) in
    ap (λ (p : List ℕ). given_images p digest (suc n)) cut
    ∙ given_images-suc whole digest n
    ∙ ap (λ (x : List ℕ). x ++ both_images (take 32 (drop (64 * n) whole)) (take 32 (drop (64 * n + 32) whole)) (bit_of digest n)) ih
    ∙ ap (λ (x : List ℕ). first_images k n ++ x) images
    ∙ sym (append_assoc (first_images k n) (image (secret_of k n 0)) (image (secret_of k n 1)))
    ∙ sym (first_images-suc k n)

-- the leaf value that a key's signature stands for is the key's
pub signed_leaf_value-signature_of : (k : KeyName) (digest : List ℕ) → signed_leaf_value (signature_of k digest) digest ≡ key_leaf_value k
unfolding signed_leaf_value signature_of key_leaf_value
signed_leaf_value-signature_of k digest =
    ap leaf_over (rw (append-nil (first_pairs k digest 256)) at (given_images-first_pairs k digest 256 []))

pub length-signature_of : (k : KeyName) (digest : List ℕ) → length (signature_of k digest) ≡ 16384
unfolding signature_of
length-signature_of k digest = length-first_pairs k digest 256

pub whole-signature : (k : KeyName) (digest xs : List ℕ) → xs ≡ first_pairs k digest 256 → xs ≡ signature_of k digest
unfolding signature_of
whole-signature k digest xs e = e

-- the same, where the next number is given by an equation
pub given_images-next : (pairs digest : List ℕ) (n m : ℕ) → m ≡ suc n → given_images pairs digest m
    ≡ given_images pairs digest n ++ both_images (shown_at pairs n) (other_at pairs n) (bit_of digest n)
given_images-next pairs digest n m e = rw e (given_images-suc pairs digest n)

-- the two images of a bit together
pub first_images-both : (k : KeyName) (n : ℕ)
    → first_images k (n + 1) ≡ first_images k n ++ (image (secret_of k n 0) ++ image (secret_of k n 1))
first_images-both k n =
    rw (add-one, first_images-suc k n) (append_assoc (first_images k n) (image (secret_of k n 0)) (image (secret_of k n 1)))

-- both images of a bit
abbrev pub images_of_bit : KeyName → ℕ → List ℕ
images_of_bit k n = image (secret_of k n 0) ++ image (secret_of k n 1)

-- and as a signature gives them
abbrev pub given_of_bit : List ℕ → List ℕ → ℕ → List ℕ
given_of_bit pairs digest n = both_images (shown_at pairs n) (other_at pairs n) (bit_of digest n)

-- what grows by an element for each bit grows by those of the first m lanes, if each lane has the element of its bit
grown : (whole : ℕ → List ℕ) (element : ℕ → List ℕ) → ((n : ℕ) → whole (suc n) ≡ whole n ++ element n)
    → (laid : ℕ → List ℕ) (part : ℕ → List ℕ) → laid 0 ≡ [] → ((j : ℕ) → laid (suc j) ≡ laid j ++ part j)
    → (n m : ℕ) → ((j : ℕ) → j < m → part j ≡ element (n + j)) → whole n ++ laid m ≡ whole (n + m)
grown whole element grows laid part none more n zero each =
    let same : n + 0 ≡ n = omega arith in
    rw (same, none) (append-nil (whole n))
grown whole element grows laid part none more n (suc m) each =
    let next : n + suc m ≡ suc (n + m) = omega arith in
    let before = grown whole element grows laid part none more n m (λ j below. each j (omega arith)) in
    rw (next, more m, grows (n + m), ← before, each m (omega arith)) (sym (append_assoc (whole n) (laid m) (element (n + m))))

blocks-none : (f s : List (List ℕ)) → blocks_up_to 0 f s ≡ []
unfolding blocks_up_to
blocks-none f s = refl

blocks-more : (f s : List (List ℕ)) (j : ℕ) → blocks_up_to (suc j) f s ≡ blocks_up_to j f s ++ (lane_bytes j f ++ lane_bytes j s)
unfolding blocks_up_to
blocks-more f s j = refl

pub pairs-none : (shown images : List (List ℕ)) → pairs_up_to 0 shown images ≡ []
unfolding pairs_up_to
pairs-none shown images = refl

pub pairs-more : (shown images : List (List ℕ)) (j : ℕ) → pairs_up_to (suc j) shown images
    ≡ pairs_up_to j shown images ++ (slice_index_or shown j [] ++ slice_index_or images j [])
unfolding pairs_up_to
pairs-more shown images j = refl

-- a turn of the images of a key
pub images-grown : (k : KeyName) (n m : ℕ) (low high : List (List ℕ))
    → ((j : ℕ) → j < m → lane_bytes j low ++ lane_bytes j high ≡ images_of_bit k (n + j))
    → first_images k n ++ blocks_up_to m low high ≡ first_images k (n + m)
images-grown k n m low high =
    grown (first_images k) (images_of_bit k) (λ i. rw (first_images-suc k i) (append_assoc (first_images k i) (image (secret_of k i 0)) (image (secret_of k i 1))))
    (λ i. blocks_up_to i low high) (λ j. lane_bytes j low ++ lane_bytes j high) (blocks-none low high) (blocks-more low high) n m

-- a turn of the images that a signature gives
pub given-grown : (pairs digest : List ℕ) (n m : ℕ) (zeroth first : List (List ℕ))
    → ((j : ℕ) → j < m → lane_bytes j zeroth ++ lane_bytes j first ≡ given_of_bit pairs digest (n + j))
    → given_images pairs digest n ++ blocks_up_to m zeroth first ≡ given_images pairs digest (n + m)
given-grown pairs digest n m zeroth first =
    grown (given_images pairs digest) (given_of_bit pairs digest) (given_images-suc pairs digest)
    (λ i. blocks_up_to i zeroth first) (λ j. lane_bytes j zeroth ++ lane_bytes j first) (blocks-none zeroth first) (blocks-more zeroth first) n m

-- a turn of the pairs of a signature
pub pairs-grown : (k : KeyName) (digest : List ℕ) (n m : ℕ) (shown images : List (List ℕ))
    → ((j : ℕ) → j < m → slice_index_or shown j [] ++ slice_index_or images j [] ≡ signed_pair k (n + j) (bit_of digest (n + j)))
    → first_pairs k digest n ++ pairs_up_to m shown images ≡ first_pairs k digest (n + m)
pairs-grown k digest n m shown images =
    grown (first_pairs k digest) (λ i. signed_pair k i (bit_of digest i)) (first_pairs-suc k digest)
    (λ i. pairs_up_to i shown images) (λ j. slice_index_or shown j [] ++ slice_index_or images j []) (pairs-none shown images) (pairs-more shown images) n m
