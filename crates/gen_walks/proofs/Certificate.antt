-- What a row of levels shows.
use Rattle.std.proofs.Common.{ℕ, ◌+◌, ◌≤◌, List, [], ◌∷◌, length, ap, arith}
use Rattle.gen_net.specs.Network.{Network}
use Rattle.gen_walks.specs.Walks.{AreJoined, Leads}
use Rattle.gen_walks.specs.Levels.{level, IsLevelRow, NoWalkIsShorter}

-- along a walk the level rises by at most the number of its edges
pub rises : (near : ℕ → ℕ → Type 0) (lev : ℕ → ℕ) → ((a b : ℕ) → near a b → lev b ≤ lev a + 1) → (a : ℕ) (more : List ℕ) (b : ℕ) → Leads near a more b → lev b ≤ lev a + length more
rises near lev even a [] b e = omega (arith, ap lev e)
rises near lev even a (c ∷ more) b h = omega (arith, even a c h.0, rises near lev even c more b h.1)

-- .. and falls by at most as many
pub falls_by : (near : ℕ → ℕ → Type 0) (lev : ℕ → ℕ) → ((a b : ℕ) → near a b → lev a ≤ lev b + 1) → (a : ℕ) (more : List ℕ) (b : ℕ) → Leads near a more b → lev a ≤ lev b + length more
falls_by near lev even a [] b e = omega (arith, ap lev e)
falls_by near lev even a (c ∷ more) b h = omega (arith, even a c h.0, falls_by near lev even c more b h.1)

pub shows : (net : Network) (rest : List ℕ) (source : ℕ) (row : List ℕ) → IsLevelRow net rest source row → NoWalkIsShorter net rest source row
shows net rest source row r g [] h = absurd h
shows net rest source row r g (x ∷ more) h = omega (arith, r.lowest, rises (AreJoined net rest) (level row) r.even source more g h.2)
