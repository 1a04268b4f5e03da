-- Which hexadecimal digits spell which bytes.
use Rattle.std.specs.Prelude.{ℕ, ◌≡◌, ◌+◌, ◌/◌, ◌%◌, ◌<◌, ◌≤◌, ◌⊎◌, List, [], ◌∷◌}

-- c is the hexadecimal digit of v: one of 0 to 9, which begin at 48, of a to f, which begin at 97, or of A to
-- F, which begin at 65
abbrev pub IsHexDigit : ℕ → ℕ → Type 0
IsHexDigit c v = ((v < 10) × (c ≡ 48 + v)) ⊎ ((10 ≤ v) × (v < 16) × ((c + 10 ≡ 97 + v) ⊎ (c + 10 ≡ 65 + v)))

-- The digits spell these bytes, two for each, the high four bits first.
abbrev pub SpellsBytes : List ℕ → List ℕ → Type 0
SpellsBytes [] [] = Unit {0}
SpellsBytes (high ∷ low ∷ digits) (b ∷ bytes) =
    IsHexDigit high (b / 16) × IsHexDigit low (b % 16) × SpellsBytes digits bytes
SpellsBytes _ _ = ⊥
