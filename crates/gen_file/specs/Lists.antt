-- Lists of numbers, of which lines are made.
use Rattle.std.specs.Prelude.{ℕ, List, [], ◌∷◌, ◌++◌, codes}
use Rattle.std.specs.List.{flat_map}
use Rattle.std.specs.Fmt.{decimal}

-- numbers parted by commas; a minus where there are none
abbrev pub listed : List ℕ → List ℕ
listed [] = codes "-"
listed (v ∷ vs) = decimal v ++ flat_map (λ w. codes "," ++ decimal w) vs
