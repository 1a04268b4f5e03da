-- Walks inside a set of generals, and what they show of its diameter (section 5 of the paper of 1982).
use Rattle.std.specs.Prelude.{ℕ, ◌≡◌, ◌+◌, ◌<◌, ◌≤◌, ◌↔◌, List, [], ◌∷◌, length, Contains}
use Rattle.gen_net.specs.Network.{Network, AreNeighbours, IsLoyal, IsBefore}

-- g is a general of the network and a member of the set
abbrev pub IsInside : Network → List ℕ → ℕ → Type 0
IsInside net rest g = (g < net.generals) × Contains rest g

-- an edge inside the set joins a and b
abbrev pub AreJoined : Network → List ℕ → ℕ → ℕ → Type 0
AreJoined net rest a b = AreNeighbours net a b × IsInside net rest a × IsInside net rest b

-- these generals lead on from a to b: each is near the one before it, and the last is b
abbrev pub Leads : (ℕ → ℕ → Type 0) → ℕ → List ℕ → ℕ → Type 0
Leads near a [] b = a ≡ b
Leads near a (c ∷ more) b = near a c × Leads near c more b

-- the list is a walk from a to b along edges, inside the set
abbrev pub IsWalkInside : Network → List ℕ → ℕ → ℕ → List ℕ → Type 0
IsWalkInside net rest a b [] = ⊥
IsWalkInside net rest a b (x ∷ more) = (x ≡ a) × IsInside net rest a × Leads (AreJoined net rest) a more b

-- a walk from a to b of at most d edges, inside the set
abbrev pub IsShortWalk : Network → List ℕ → ℕ → ℕ → List ℕ → Type 0
IsShortWalk net rest a b walk = IsWalkInside net rest a b walk × (length walk ≤ net.diameter + 1)

-- two generals of the set, the lesser first
abbrev pub IsPair : Network → List ℕ → ℕ → ℕ → Type 0
IsPair net rest a b = (a < b) × IsInside net rest a × IsInside net rest b

-- a pair of the set that stands before (a, b)
abbrev pub IsPairBefore : Network → List ℕ → ℕ → ℕ → ℕ → ℕ → Type 0
IsPairBefore net rest a b x y = IsPair net rest x y × IsBefore (x, y) (a, b)

-- one of the given walks leads from a to b inside the set by at most d edges
abbrev pub Bridges : Network → List ℕ → List (List ℕ) → ℕ → ℕ → Type 0
Bridges net rest walks a b = (walk : List ℕ) × Contains walks walk × IsShortWalk net rest a b walk

-- the walks bound the diameter of the set by d: for each pair one of them leads from the lesser to the
-- greater
abbrev pub BoundsDiameter : Network → List ℕ → List (List ℕ) → Type 0
BoundsDiameter net rest walks = (a b : ℕ) → IsPair net rest a b → Bridges net rest walks a b

-- a walk of at most d edges inside the set leads from a to b
abbrev pub HasShortWalk : Network → List ℕ → ℕ → ℕ → Type 0
HasShortWalk net rest a b = (walk : List ℕ) × IsShortWalk net rest a b walk

-- each two generals of the set are joined inside the set by a walk of at most d edges
abbrev pub IsWithinDiameter : Network → List ℕ → Type 0
IsWithinDiameter net rest = (a b : ℕ) → IsPair net rest a b → HasShortWalk net rest a b

-- the set is the rest: a general of the network is inside it if and only if it is not faulty
abbrev pub IsRestOf : Network → List ℕ → List ℕ → Type 0
IsRestOf net faulty rest = (g : ℕ) → IsInside net rest g ↔ IsLoyal net faulty g

-- (a, b) is the least pair of the set for which Good does not hold
pub record IsLeastBadPair (net : Network) (rest : List ℕ) (Good : ℕ → ℕ → Type 0) (a b : ℕ) : Type 0 where
  pub pair : IsPair net rest a b
  pub bad : Good a b → ⊥
  pub least : (x y : ℕ) → IsPairBefore net rest a b x y → Good x y

-- the network and the set that a proof is about
pub record DiameterProof : Type 0 where
  pub network : Network
  pub rest : List ℕ
