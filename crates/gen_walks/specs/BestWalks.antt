-- The walks that are made: for each pair the least among its shortest walks.
use Rattle.std.specs.Prelude.{ℕ, ◌≡◌, ◌+◌, ◌≤◌, ◌↔◌, List, length, Contains, AllPairs}
use Rattle.std.specs.List.{AllZip}
use Rattle.gen_net.specs.Network.{Network, IsBefore}
use Rattle.gen_net.specs.Log.{Precedes}
use Rattle.gen_walks.specs.Walks.{IsWalkInside, IsPair}

-- the lexicographically least among the shortest walks from a to b inside the set
pub record IsBestWalk (net : Network) (rest : List ℕ) (a b : ℕ) (walk : List ℕ) : Type 0 where
  pub leads : IsWalkInside net rest a b walk
  pub shortest : (other : List ℕ) → IsWalkInside net rest a b other → length walk ≤ length other
  pub least : (other : List ℕ) → IsWalkInside net rest a b other → length other ≡ length walk
      → Precedes other walk → ⊥

-- the best walk of the pair, of at most d edges
abbrev pub IsBestFor : Network → List ℕ → ℕ × ℕ → List ℕ → Type 0
IsBestFor net rest pair walk = IsBestWalk net rest pair.0 pair.1 walk × (length walk ≤ net.diameter + 1)

-- the best walk of each pair that is asked for, in the order of the pairs
pub record AreBestFor (net : Network) (rest : List ℕ) (Asked : ℕ → ℕ → Type 0) (walks : List (List ℕ)) :
    Type 0 where
  pub pairs : List (ℕ × ℕ)
  pub ascending : AllPairs IsBefore pairs
  pub members : (a b : ℕ) → Contains pairs (a, b) ↔ Asked a b
  pub best : AllZip (IsBestFor net rest) pairs walks

-- the best walk of each pair of the set, in the order of the pairs
abbrev pub AreBestWalks : Network → List ℕ → List (List ℕ) → Type 0
AreBestWalks net rest walks = AreBestFor net rest (IsPair net rest) walks
