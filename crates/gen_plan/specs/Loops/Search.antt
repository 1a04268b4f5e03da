-- What holds during the search.
use Rattle.std.specs.Prelude.{ℕ, ◌≡◌, ◌<◌, List, Contains, slice_index_or}
use Rattle.gen_net.specs.Network.{Network, AreNeighbours, IsLoyal, IsNetwork}
use Rattle.gen_types.specs.Ascending.{IsListOf}
use Rattle.gen_types.specs.Bits.{members_of}
use Rattle.gen_plan.specs.Plans.{IsJoinedBy}

-- the neighbours of each general as bits
pub record IsGraph (net : Network) (count : ℕ) (bits : List ℕ) : Type 0 where
  pub network : IsNetwork net
  pub generals : count ≡ net.generals
  pub neighbours : (g : ℕ) → g < 16 → IsListOf (members_of (slice_index_or bits g 0)) (AreNeighbours net g)

-- an edge leads from a to `via`, which is a member of the set and of the rest
pub record IsStep (net : Network) (faulty set : List ℕ) (a via : ℕ) : Type 0 where
  pub near : AreNeighbours net a via
  pub member : Contains set via
  pub loyal : Contains faulty via → ⊥

-- b stands behind a, and is neither faulty nor joined
abbrev pub IsBehindApart : List ℕ → List ℕ → ℕ → ℕ → Type 0
IsBehindApart faulty joined a b = (a < b) × (Contains faulty b → ⊥) × (Contains joined b → ⊥)

-- b is the least general of the rest behind a, of the rest too, that is not joined to a by at most this
-- many edges
pub record IsLeastApartFrom (net : Network) (faulty : List ℕ) (most a b : ℕ) : Type 0 where
  pub ordered : a < b
  pub lesser : IsLoyal net faulty a
  pub greater : IsLoyal net faulty b
  pub apart : IsJoinedBy net faulty most a b → ⊥
  pub least : (y : ℕ) → a < y → y < b → IsLoyal net faulty y → IsJoinedBy net faulty most a y
