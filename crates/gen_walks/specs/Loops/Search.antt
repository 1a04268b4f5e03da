-- The search by levels, and the step to the next general of a best walk.
use Rattle.std.specs.Prelude.{ℕ, ◌≡◌, ◌≢◌, ◌+◌, ◌<◌, ◌≤◌, ◌⊎◌, List, length, get_or}
use Rattle.gen_net.specs.Network.{Network}
use Rattle.gen_walks.specs.Walks.{AreJoined}
use Rattle.gen_walks.specs.Levels.{level}

-- Levels by steps from the source, which has level 0. Each other general with a level below 255 is near a
-- general whose level is one less, and no step raises the level by more than 1.
pub record AreLevels (near : ℕ → ℕ → Type 0) (source : ℕ) (lev : ℕ → ℕ) : Type 0 where
  pub lowest : lev source ≡ 0
  pub bounded : (v : ℕ) → v < 16 → (lev v ≡ 255) ⊎ (lev v ≤ 16)
  pub comes : (v : ℕ) → v < 16 → lev v < 255 → (v ≡ source) ⊎ ((u : ℕ) × near u v × (lev v ≡ lev u + 1))
  pub even : (u v : ℕ) → near u v → lev v ≤ lev u + 1

-- one row for each general below n: the levels from this general inside the set
pub record AreLevelRows (net : Network) (rest : List ℕ) (n : ℕ) (rows : List (List ℕ)) : Type 0 where
  pub long : length rows ≡ n
  pub each : (g : ℕ) (row : List ℕ) → g < n → AreLevels (AreJoined net rest) g (level (get_or rows g row))

-- x is the level of v after a round, which gives level k + 1 to each general that has none and is near a
-- general of level k
abbrev pub IsNextLevel : (ℕ → ℕ → Type 0) → (ℕ → ℕ) → ℕ → ℕ → ℕ → Type 0
IsNextLevel near lev k v x =
    ((lev v ≢ 255) × (x ≡ lev v))
    ⊎ ((lev v ≡ 255) × (x ≡ k + 1) × ((u : ℕ) × near u v × (lev u ≡ k)))
    ⊎ ((lev v ≡ 255) × (x ≡ 255) × ((u : ℕ) → near u v → lev u ≡ k → ⊥))

-- c is the least general near a whose level is one less than that of a
pub record IsNearest (near : ℕ → ℕ → Type 0) (lev : ℕ → ℕ) (a c : ℕ) : Type 0 where
  pub joins : near a c
  pub nearer : lev a ≡ lev c + 1
  pub least : (x : ℕ) → near a x → lev a ≡ lev x + 1 → c ≤ x
