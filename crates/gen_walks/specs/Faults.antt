-- What a fault says about the least pair that has no short walk.
use Rattle.std.specs.Prelude.{ℕ, ◌≡◌, ◌<◌, List}
use Rattle.gen_net.specs.Network.{Network}
use Rattle.gen_walks.specs.Walks.{IsLeastBadPair, HasShortWalk}
use Rattle.gen_walks.specs.Levels.{level, IsDistance, IsDistanceRow, HasNoWalk}
use Rattle.gen_walks.specs.declared.fault.WalkFault.{WalkFault}
use Rattle.gen_walks.specs.declared.fault.WalkFault.TheVariants.{Memory, NoWalk, TooLong}

-- The fault tells the pair (a, b) and the distances from a. No walk leads to b, or the shortest walk to b
-- has this many edges, more than d. Memory tells nothing.
abbrev pub Explains : Network → List ℕ → ℕ → ℕ → WalkFault → Type 0
Explains net rest a b Memory = Unit {0}
Explains net rest a b (NoWalk pair row) =
    (pair.a ≡ a) × (pair.b ≡ b)
    × IsDistanceRow net rest a row × (level row b ≡ 255) × HasNoWalk net rest a b
Explains net rest a b (TooLong pair row edges) =
    (pair.a ≡ a) × (pair.b ≡ b) × IsDistanceRow net rest a row
    × (level row b ≡ edges) × IsDistance net rest a b edges × (net.diameter < edges)

-- The fault explains the least pair that has no short walk, or memory was refused.
abbrev pub IsWalkFault : Network → List ℕ → WalkFault → Type 0
IsWalkFault net rest Memory = Unit {0}
IsWalkFault net rest (NoWalk pair row) =
    IsLeastBadPair net rest (HasShortWalk net rest) pair.a pair.b
    × Explains net rest pair.a pair.b (NoWalk pair row)
IsWalkFault net rest (TooLong pair row edges) =
    IsLeastBadPair net rest (HasShortWalk net rest) pair.a pair.b
    × Explains net rest pair.a pair.b (TooLong pair row edges)
