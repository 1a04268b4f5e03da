-- Fields and numbers of a line of text.
use Rattle.std.specs.Prelude.{ℕ, ◌+◌, ◌-◌, ◌*◌, Bool, ◌&&◌, List, [], ◌∷◌, Option, Some, None, nat_lt, nat_le, ◌==◌, if◌then◌else◌}
use Rattle.std.specs.List.{slice_split}

-- the fields of a line, parted by one space
abbrev pub fields : List ℕ → List (List ℕ)
fields line = slice_split (λ b. b == 32) line

abbrev pub is_digit : ℕ → Bool
is_digit b = nat_le 48 b && nat_le b 57

-- a decimal number without leading zeros, at most 255
abbrev pub number_of : List ℕ → Option ℕ
number_of [] = None
number_of (a ∷ []) = if is_digit a then Some (a - 48) else None
number_of (a ∷ b ∷ []) =
    if is_digit a && nat_lt 48 a && is_digit b then Some (10 * (a - 48) + (b - 48)) else None
number_of (a ∷ b ∷ c ∷ []) =
    if is_digit a && nat_lt 48 a && is_digit b && is_digit c
    && nat_le (100 * (a - 48) + 10 * (b - 48) + (c - 48)) 255
    then Some (100 * (a - 48) + 10 * (b - 48) + (c - 48)) else None
number_of (a ∷ b ∷ c ∷ d ∷ more) = None
