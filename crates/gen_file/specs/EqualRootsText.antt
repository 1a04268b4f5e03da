-- Pairs of generals with the same root as lines.
use Rattle.std.specs.Prelude.{ℕ, List, ◌++◌, codes}
use Rattle.std.specs.List.{flat_map}
use Rattle.std.specs.Fmt.{decimal}

-- the line of two generals with the same root, and the lines of such pairs
unfoldable pub equal_roots_line : ℕ × ℕ → List ℕ
equal_roots_line pair = codes "equal roots " ++ decimal pair.0 ++ codes " " ++ decimal pair.1 ++ codes "\n"

abbrev pub equal_roots_lines : List (ℕ × ℕ) → List ℕ
equal_roots_lines pairs = flat_map equal_roots_line pairs
