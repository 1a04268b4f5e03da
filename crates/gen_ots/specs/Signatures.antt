-- One-time signatures, as lists of bytes, and the leaf values that they stand for.
use Rattle.std.specs.Prelude.{ℕ, zero, suc, ◌+◌, ◌*◌, Bool, List, [], ◌++◌, take, drop, slice_index_or}
use Rattle.gen_ots.specs.Secrets.{KeyName, secret_of}
use Rattle.gen_ots.specs.OneTime.{image, leaf_over, bit_of, on_side}
use Rattle.gen_ots.specs.Sizes.{digest_bits, hash_length, pair_length}

-- what a signature shows for a bit: the secret on the side that the bit names, and the image of the other
-- secret
abbrev pub signed_pair : KeyName → ℕ → Bool → List ℕ
signed_pair k n one =
    on_side one (secret_of k n 0) (secret_of k n 1)
    ++ image (on_side one (secret_of k n 1) (secret_of k n 0))

-- the pairs that a key shows for the first n bits of a digest, one after another
unfoldable pub first_pairs : KeyName → List ℕ → ℕ → List ℕ
first_pairs k digest zero = []
first_pairs k digest (suc n) = first_pairs k digest n ++ signed_pair k n (bit_of digest n)

-- the pairs of the first n lanes, one after another, where each lane has a secret that is shown and an image
unfoldable pub pairs_up_to : ℕ → List (List ℕ) → List (List ℕ) → List ℕ
pairs_up_to zero shown images = []
pairs_up_to (suc n) shown images =
    pairs_up_to n shown images ++ (slice_index_or shown n [] ++ slice_index_or images n [])

-- the signature of a digest by a key
unfoldable pub signature_of : KeyName → List ℕ → List ℕ
signature_of k digest = first_pairs k digest digest_bits

-- the images of both sides of a bit, side 0 first, made of the secret that is shown and the image of the
-- other side
abbrev pub both_images : List ℕ → List ℕ → Bool → List ℕ
both_images shown other one = on_side one (image shown) other ++ on_side one other (image shown)

-- the secret that the pair of a bit shows
abbrev pub shown_at : List ℕ → ℕ → List ℕ
shown_at pairs bit = take hash_length (drop (pair_length * bit) pairs)

-- the image that the pair of a bit gives
abbrev pub other_at : List ℕ → ℕ → List ℕ
other_at pairs bit = take hash_length (drop (pair_length * bit + hash_length) pairs)

-- the images that the first n pairs of a signature stand for, one after another
unfoldable pub given_images : List ℕ → List ℕ → ℕ → List ℕ
given_images pairs digest zero = []
given_images pairs digest (suc n) =
    given_images pairs digest n
    ++ both_images (shown_at pairs n) (other_at pairs n) (bit_of digest n)

-- the leaf value that a signature of a digest stands for
unfoldable pub signed_leaf_value : List ℕ → List ℕ → List ℕ
signed_leaf_value pairs digest = leaf_over (given_images pairs digest digest_bits)
