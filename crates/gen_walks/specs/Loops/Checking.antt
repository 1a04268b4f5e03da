-- The check of levels, general by general.
use Rattle.std.specs.Prelude.{ℕ, ◌+◌, ◌<◌, List}
use Rattle.gen_net.specs.Network.{Network}
use Rattle.gen_walks.specs.Walks.{AreJoined}
use Rattle.gen_walks.specs.Levels.{level}

-- an edge inside the set joins a and b, and the level of b is greater than that of a by more than 1
abbrev pub IsSteep : Network → List ℕ → List ℕ → ℕ → ℕ → Type 0
IsSteep net rest row a b = (level row a + 1 < level row b) × AreJoined net rest a b

-- no edge inside the set from a is steep
abbrev pub IsEvenFrom : Network → List ℕ → List ℕ → ℕ → Type 0
IsEvenFrom net rest row a = (b : ℕ) → b < net.generals → IsSteep net rest row a b → ⊥
