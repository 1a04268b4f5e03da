-- The paths of picked chains.
use Rattle.std.specs.Prelude.{ℕ, List, Option, map, option_map}
use Rattle.gen_core.specs.declared.arrivals.Seen.{Seen}

-- for each order the path of the picked chain, if there is one
abbrev pub paths_of : List (Option Seen) → List (Option (List ℕ))
paths_of picked = map (option_map (λ seen. seen.path)) picked
