-- Walks inside the rest, the loyal generals, and the diameter of the graph that they form (section 5 of the
-- paper of 1982).
use Rattle.std.specs.Prelude.{ℕ, zero, suc, ◌≡◌, ◌≤◌, List}
use Rattle.gen_net.specs.Network.{Network, AreNeighbours, IsLoyal}

-- a walk of this many edges leads from a to b, and each general after a is of the rest
abbrev pub IsWalk : Network → List ℕ → ℕ → ℕ → ℕ → Type 0
IsWalk net faulty zero a b = a ≡ b
IsWalk net faulty (suc edges) a b =
    (c : ℕ) × AreNeighbours net a c × IsLoyal net faulty c × IsWalk net faulty edges c b

-- any two of the rest are joined inside the rest by at most d edges
abbrev pub HasDiameter : Network → List ℕ → Type 0
HasDiameter net faulty = (a b : ℕ) → IsLoyal net faulty a → IsLoyal net faulty b
    → (edges : ℕ) × (edges ≤ net.diameter) × IsWalk net faulty edges a b
