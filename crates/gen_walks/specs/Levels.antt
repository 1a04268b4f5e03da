-- Levels of generals, which bound the length of walks from below, and distances.
use Rattle.std.specs.Prelude.{ℕ, ◌≡◌, ◌+◌, ◌<◌, ◌≤◌, List, length, slice_index_or}
use Rattle.gen_net.specs.Network.{Network}
use Rattle.gen_walks.specs.Walks.{IsInside, AreJoined, IsWalkInside}

-- the level of g in a row of levels; 255 says that g has none
abbrev pub level : List ℕ → ℕ → ℕ
level row g = slice_index_or row g 255

-- the source is inside the set and has level 0, and no edge inside the set raises the level by more than 1
pub record IsLevelRow (net : Network) (rest : List ℕ) (source : ℕ) (row : List ℕ) : Type 0 where
  pub inside : IsInside net rest source
  pub lowest : level row source ≡ 0
  pub even : (a b : ℕ) → AreJoined net rest a b → level row b ≤ level row a + 1

-- no walk inside the set from the source to a general has fewer edges than the general's level
abbrev pub NoWalkIsShorter : Network → List ℕ → ℕ → List ℕ → Type 0
NoWalkIsShorter net rest source row =
    (g : ℕ) (walk : List ℕ) → IsWalkInside net rest source g walk → level row g + 1 ≤ length walk

-- the number of edges of the shortest walk inside the set from a to b
pub record IsDistance (net : Network) (rest : List ℕ) (a b edges : ℕ) : Type 0 where
  pub walk : List ℕ
  pub leads : IsWalkInside net rest a b walk
  pub long : length walk ≡ edges + 1
  pub shortest : (other : List ℕ) → IsWalkInside net rest a b other → length walk ≤ length other

-- no walk inside the set leads from a to b
abbrev pub HasNoWalk : Network → List ℕ → ℕ → ℕ → Type 0
HasNoWalk net rest a b = (walk : List ℕ) → IsWalkInside net rest a b walk → ⊥

-- The levels are the distances from the source inside the set. A level is 255 if no walk leads there, and
-- for each number from n on, which is no general's.
pub record IsDistanceRow (net : Network) (rest : List ℕ) (source : ℕ) (row : List ℕ) : Type 0 where
  pub levels : IsLevelRow net rest source row
  pub reached : (g : ℕ) → g < net.generals → level row g < 255 → IsDistance net rest source g (level row g)
  pub unreached : (g : ℕ) → g < net.generals → level row g ≡ 255 → HasNoWalk net rest source g
  pub no_general : (g : ℕ) → net.generals ≤ g → g < 16 → level row g ≡ 255
