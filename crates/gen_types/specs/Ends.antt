-- How paths begin and end, and whether a general stands in one.
use Rattle.std.specs.Prelude.{ℕ, ◌≡◌, Bool, List, [], ◌∷◌, ◌++◌, ◌==◌}
use Rattle.std.specs.List.{list_any}

-- the path begins with these generals
abbrev pub BeginsWith : List ℕ → List ℕ → Type 0
BeginsWith path front = (rest : List ℕ) × (path ≡ front ++ rest)

-- the general is the last of the path
abbrev pub EndsWith : List ℕ → ℕ → Type 0
EndsWith path last = (front : List ℕ) × (path ≡ front ++ last ∷ [])

-- the test whether a number is a member of a list
abbrev pub is_among : List ℕ → ℕ → Bool
is_among xs x = list_any (λ y. y == x) xs
