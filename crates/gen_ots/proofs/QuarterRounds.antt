-- A round on the columns or diagonals of a state, made of two halves.
use Rattle.std.proofs.Common.{◌≡◌, ℕ, List, [], ◌∷◌, refl, slice_index}
use Rattle.rand_chacha.specs.Block.{column_round, diagonal_round, quarter_round}
use Rattle.gen_ots.specs.Blocks.{half_round, half_rounds}

-- the two halves of the quarter round on each column
pub column-halves : (x : List ℕ) → half_rounds 8 7 (half_rounds 16 12 x) ≡ column_round x
unfolding column_round quarter_round half_rounds half_round
column-halves x = refl

-- the words at these places
abbrev pub words_at : List ℕ → ℕ → ℕ → ℕ → ℕ → List ℕ → List ℕ
words_at x a b c d rest = slice_index x a ∷ slice_index x b ∷ slice_index x c ∷ slice_index x d ∷ rest

-- the rows of the state turned, so that its diagonals are columns
abbrev pub turned : List ℕ → List ℕ
turned x = words_at x 0 1 2 3 (words_at x 5 6 7 4 (words_at x 10 11 8 9 (words_at x 15 12 13 14 [])))

-- the rows turned back
abbrev pub turned-back : List ℕ → List ℕ
turned-back x = words_at x 0 1 2 3 (words_at x 7 4 5 6 (words_at x 10 11 8 9 (words_at x 13 14 15 12 [])))

-- a round on diagonals is one on the columns of the turned state
pub diagonal-turned : (x : List ℕ) → turned-back (column_round (turned x)) ≡ diagonal_round x
unfolding column_round diagonal_round
diagonal-turned x = refl
