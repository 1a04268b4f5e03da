-- A hash is 32 bytes.
use Rattle.std.proofs.Common.{◌≡◌, ◌<◌, ◌^◌, ◌/◌, ℕ, zero, suc, List, ◌∷◌, All, length, slice_index, arith}
use Rattle.std.specs.Int.{byte_at, bytes_high_first, to_be_bytes, w32}
use Rattle.std.proofs.lemmas.List.Elements.{All-append, All-nil}
use Rattle.std.proofs.lemmas.Nat.{mod_below}
use Rattle.sha2.specs.Sha256.{sha256, digest_bytes}

abbrev Bytes : List ℕ → Type 0
Bytes bytes = All (λ b. b < 256) bytes

more : (b : ℕ) (bytes : List ℕ) → b < 256 → Bytes bytes → Bytes (b ∷ bytes)
more b bytes below are zero d in_range = below
more b bytes below are (suc i) d in_range = are i d (omega (arith, in_range))

one_byte : (k n : ℕ) → byte_at k n < 256
one_byte zero n = mod_below n 256 (omega arith)
one_byte (suc k) n = mod_below (n / 256 ^ suc k) 256 (omega arith)

number_bytes : (k n : ℕ) → Bytes (bytes_high_first k n)
number_bytes zero n = All-nil (λ v. v < 256)
number_bytes (suc k) n = more (byte_at k n) (bytes_high_first k n) (one_byte k n) (number_bytes k n)

words_bytes : (h : List ℕ) (n : ℕ) → Bytes (digest_bytes h n)
unfolding digest_bytes
words_bytes h zero = All-nil (λ v. v < 256)
words_bytes h (suc n) = All-append (λ v. v < 256) (digest_bytes h n) (to_be_bytes w32 (slice_index h n)) (words_bytes h n) (number_bytes 4 (slice_index h n))

pub hash_bytes : (text : List ℕ) → Bytes (sha256 text)
unfolding sha256
hash_bytes text = words_bytes _ 8

-- each byte of a hash
pub each_byte : (q : List ℕ) → length q ≡ 32 → Bytes q → (i : ℕ) → i < 32 → slice_index q i < 256
each_byte q len are i h = are i 0 (omega (arith, len))
