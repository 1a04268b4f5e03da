-- The bytes of a word in the other order.
use Rattle.std.proofs.Common.{◌≡◌, ℕ, zero, suc, ◌<◌, ◌≤◌, ◌+◌, ◌*◌, ◌/◌, ◌%◌, ◌^◌, List, [], ◌∷◌, ◌++◌, slice_index, w32, arith, refl, ap, ◌∙◌}
use Rattle.std.proofs.lemmas.Nat.{be_bytes_4}
use Rattle.std.specs.Int.{swap_bytes, to_be_bytes, to_le_bytes}
use Rattle.byteorder.specs.Endian.{little_bytes}
use Rattle.rand_chacha.specs.Block.{add32, block_word}
use Rattle.sha2.specs.Sha256.{digest_bytes}
use Rattle.gen_ots.specs.Secrets.{eight_words, secret_at, secret_word}

-- a shift to the left that leaves the low byte alone
low_byte : (y : ℕ) → y * 2 ^ 24 % 2 ^ 32 ≡ y % 256 * 2 ^ 24
low_byte y = omega arith

-- the four bytes of a word, each shifted to its new place
pub swapped : (x : ℕ) → x < 2 ^ 32 → add32 (add32 (x * 2 ^ 24 % 2 ^ 32) (x / 2 ^ 8 * 2 ^ 24 % 2 ^ 32 / 2 ^ 8))
    (add32 (x / 2 ^ 16 * 2 ^ 24 % 2 ^ 32 / 2 ^ 16) (x / 2 ^ 24)) ≡ swap_bytes w32 x
swapped x fits =
    let a = low_byte x in
    let b = low_byte (x / 2 ^ 8) in
    let d = low_byte (x / 2 ^ 16) in
    let e : x / 2 ^ 24 ≡ x / 2 ^ 24 % 256 = omega arith in
    omega (arith, a, b, d, e)

-- each byte of a word is below 256
low_bytes : (x i : ℕ) → slice_index (to_le_bytes w32 x) i < 256
low_bytes x zero = omega arith
low_bytes x (suc zero) = omega arith
low_bytes x (suc (suc zero)) = omega arith
low_bytes x (suc (suc (suc zero))) = omega arith
low_bytes x (suc (suc (suc (suc i)))) = omega arith

-- the bytes of a swapped word, high byte first, are those of the word with its low byte first
bytes_of_swapped : (x y : ℕ) → y ≡ swap_bytes w32 x → to_be_bytes w32 y ≡ little_bytes 4 x
bytes_of_swapped x y e = be_bytes_4 (to_le_bytes w32 x) y refl (low_bytes x) e

-- a word of a block is one of the stream
word_of_block : (key : List ℕ) (stream counter place i : ℕ) → place ≡ 16 * counter + i → i < 16
    → block_word 10 key counter stream i ≡ secret_word key stream place
word_of_block key stream counter place i at below =
    let block : place / 16 ≡ counter = omega arith in
    let word : place % 16 ≡ i = omega arith in
    rw (block, word) refl

-- eight words of a block, each with its bytes swapped, are a secret
pub secret_bytes : (key : List ℕ) (stream counter place at : ℕ) (a b c d e f g h : ℕ)
    → place ≡ 16 * counter + at → at + 8 ≤ 16
    → a ≡ swap_bytes w32 (block_word 10 key counter stream at)
    → b ≡ swap_bytes w32 (block_word 10 key counter stream (at + 1))
    → c ≡ swap_bytes w32 (block_word 10 key counter stream (at + 2))
    → d ≡ swap_bytes w32 (block_word 10 key counter stream (at + 3))
    → e ≡ swap_bytes w32 (block_word 10 key counter stream (at + 4))
    → f ≡ swap_bytes w32 (block_word 10 key counter stream (at + 5))
    → g ≡ swap_bytes w32 (block_word 10 key counter stream (at + 6))
    → h ≡ swap_bytes w32 (block_word 10 key counter stream (at + 7))
    → digest_bytes (a ∷ b ∷ c ∷ d ∷ e ∷ f ∷ g ∷ h ∷ []) 8 ≡ secret_at key stream place
unfolding digest_bytes secret_at eight_words
secret_bytes key stream counter place at a b c d e f g h is room ea eb ec ed ee ef eg eh =
    let w = λ (p i y : ℕ) (s : p ≡ 16 * counter + i) (l : i < 16) (q : y ≡ swap_bytes w32 (block_word 10 key counter stream i)).
    bytes_of_swapped (block_word 10 key counter stream i) y q ∙ ap (little_bytes 4) (word_of_block key stream counter p i s l) in
    let p0 = w place at a is (omega arith) ea in
    let p1 = w (place + 1) (at + 1) b (omega arith) (omega arith) eb in
    let p2 = w (place + 2) (at + 2) c (omega arith) (omega arith) ec in
    let p3 = w (place + 3) (at + 3) d (omega arith) (omega arith) ed in
    let p4 = w (place + 4) (at + 4) e (omega arith) (omega arith) ee in
    let p5 = w (place + 5) (at + 5) f (omega arith) (omega arith) ef in
    let p6 = w (place + 6) (at + 6) g (omega arith) (omega arith) eg in
    let p7 = w (place + 7) (at + 7) h (omega arith) (omega arith) eh in
    λ i. p0 i ++ p1 i ++ p2 i ++ p3 i ++ p4 i ++ p5 i ++ p6 i ++ p7 i
