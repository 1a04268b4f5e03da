-- Lines of fields, and texts of lines.
use Rattle.std.specs.Prelude.{ℕ, List, [], ◌∷◌, ◌++◌, codes}
use Rattle.std.specs.List.{flat_map, join_with_byte}
use Rattle.std.specs.Fmt.{decimal}

-- The bytes of a line: its fields, separated by one space.
abbrev pub line_of : List (List ℕ) → List ℕ
line_of fs = join_with_byte 32 fs

-- the fields of a line: a word and a number
abbrev pub said : List ℕ → ℕ → List (List ℕ)
said word n = word ∷ decimal n ∷ []

-- the fields of the line of an edge
abbrev pub edge_line : ℕ × ℕ → List (List ℕ)
edge_line e = codes "edge" ∷ decimal e.0 ∷ decimal e.1 ∷ []

-- The bytes of a text: its lines, each with a line feed at its end.
abbrev pub text_of : List (List ℕ) → List ℕ
text_of lines = flat_map (λ line. line ++ 10 ∷ []) lines
