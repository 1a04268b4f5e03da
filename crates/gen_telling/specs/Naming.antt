-- The runs that a file is of, as a text.
use Rattle.std.specs.Prelude.{ℕ, List, [], ◌∷◌, ◌++◌}
use Rattle.std.specs.List.{flat_map}
use Rattle.hex.specs.Hex.{encode_lower}

-- run ids in 64 hexadecimal digits each, with commas between them
abbrev pub ids_text : List (List ℕ) → List ℕ
ids_text [] = []
ids_text (id ∷ ids) = encode_lower id ++ flat_map (λ other. 44 ∷ encode_lower other) ids
