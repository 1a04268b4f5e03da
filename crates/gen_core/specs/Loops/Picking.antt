-- The search for the chains from the least senders.
use Rattle.std.specs.Prelude.{ℕ, ◌≡◌, ◌<◌, ◌≤◌, List, length, Contains, Option, Some, None, slice_index_or}
use Rattle.gen_core.specs.declared.arrivals.Seen.{Seen}
use Rattle.gen_core.specs.Paths.{paths_of}

-- one of these chains has this order
abbrev pub OrderIn : List Seen → ℕ → Type 0
OrderIn seen v = (s : Seen) × Contains seen s × (s.order ≡ v)

-- no chain is picked for the order, which is known already or has no chain; or the order is not known, and
-- the picked chain is the one of this order from the least sender
abbrev pub IsBest : List ℕ → List Seen → ℕ → Option Seen → Type 0
IsBest known seen v None = OrderIn seen v → Contains known v
IsBest known seen v (Some s) =
    Contains seen s × (s.order ≡ v) × (Contains known v → ⊥)
    × ((t : Seen) → Contains seen t → t.order ≡ v → s.from ≤ t.from)

-- for each order that is not known and has a chain, the picked chain is the one from the least sender
pub record AreBest (known : List ℕ) (seen : List Seen) (picked : List (Option Seen)) : Type 0 where
  pub long : length picked ≡ 16
  pub each : (v : ℕ) → v < 16 → IsBest known seen v (slice_index_or picked v None)

-- these are the paths of chains picked in this way
abbrev pub AreBestPaths : List ℕ → List Seen → List (Option (List ℕ)) → Type 0
AreBestPaths known seen adds =
    (picked : List (Option Seen)) × AreBest known seen picked × (adds ≡ paths_of picked)
