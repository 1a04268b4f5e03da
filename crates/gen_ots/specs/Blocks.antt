-- Blocks of ChaCha20 side by side: each word is a vector, with one lane for each block.
use Rattle.std.specs.Prelude.{◌≡◌, ℕ, ◌<◌, List, [], ◌∷◌, slice_index}
use Rattle.rand_chacha.specs.Block.{add32, block_word, xor_rotate}
use Rattle.sha_lanes.specs.Lanes.{lane_at}
use Rattle.gen_ots.specs.Secrets.{double_rounds}

-- lane j of sixteen vectors has the sixteen words of the block of this key and stream with this counter
abbrev pub HasBlock : ℕ → List (List ℕ) → List ℕ → ℕ → ℕ → Type 0
HasBlock j x key stream counter =
    (k : ℕ) → k < 16 → lane_at x k j ≡ block_word double_rounds key counter stream k

-- one half of the quarter round, with rotations by m and n
unfoldable pub half_round : ℕ → ℕ → ℕ → ℕ → ℕ → ℕ → ℕ × ℕ × ℕ × ℕ
half_round m n a b c d =
    let a1 = add32 a b in
    let d1 = xor_rotate d a1 m in
    let c1 = add32 c d1 in
    let b1 = xor_rotate b c1 n in
    (a1, b1, c1, d1)

-- one half of the quarter round on four words of a state, which are named by their places
abbrev pub half_round_at : ℕ → ℕ → List ℕ → ℕ → ℕ → ℕ → ℕ → ℕ × ℕ × ℕ × ℕ
half_round_at m n x a b c d =
    half_round m n (slice_index x a) (slice_index x b) (slice_index x c) (slice_index x d)

-- one half of the quarter round on each column of a state, which is read as four rows of four words
unfoldable pub half_rounds : ℕ → ℕ → List ℕ → List ℕ
half_rounds m n x =
    let h0 = half_round_at m n x 0 4 8 12 in
    let h1 = half_round_at m n x 1 5 9 13 in
    let h2 = half_round_at m n x 2 6 10 14 in
    let h3 = half_round_at m n x 3 7 11 15 in
    h0.0 ∷ h1.0 ∷ h2.0 ∷ h3.0
    ∷ h0.1 ∷ h1.1 ∷ h2.1 ∷ h3.1
    ∷ h0.2 ∷ h1.2 ∷ h2.2 ∷ h3.2
    ∷ h0.3 ∷ h1.3 ∷ h2.3 ∷ h3.3 ∷ []
