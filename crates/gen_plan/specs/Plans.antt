-- Whether a network withstands the number of faulty generals and the diameter that a run is planned for.
use Rattle.std.specs.Prelude.{ℕ, ◌≡◌, ◌<◌, ◌≤◌, ◌⊎◌, List, length, Contains, AllPairs, Option, Some, None}
use Rattle.gen_net.specs.Network.{Network, IsLoyal, IsBefore}
use Rattle.gen_net.specs.Walks.{IsWalk}
use Rattle.gen_types.specs.Bits.{bits_of}

-- a walk of at most this many edges leads from a to b, and each general after a is of the rest
abbrev pub IsJoinedBy : Network → List ℕ → ℕ → ℕ → ℕ → Type 0
IsJoinedBy net faulty most a b = (edges : ℕ) × (edges ≤ most) × IsWalk net faulty edges a b

-- any two of the rest are joined inside the rest by at most this many edges
abbrev pub AreJoinedBy : Network → List ℕ → ℕ → Type 0
AreJoinedBy net faulty most =
    (a b : ℕ) → IsLoyal net faulty a → IsLoyal net faulty b → IsJoinedBy net faulty most a b

-- whichever generals are faulty, at most this many, any two of the rest are joined by at most `diameter`
-- edges
abbrev pub Withstands : Network → ℕ → ℕ → Type 0
Withstands net traitors diameter =
    (faulty : List ℕ) → length faulty ≤ traitors → AreJoinedBy net faulty diameter

-- the ascending list of some generals of the network
pub record IsSetOf (net : Network) (set : List ℕ) : Type 0 where
  pub ascending : AllPairs (λ a b. a < b) set
  pub inside : (g : ℕ) → Contains set g → g < net.generals

-- a set stands before another if it has fewer members, or as many and a less number, in which bit g is
-- that of g
abbrev pub ComesBefore : List ℕ → List ℕ → Type 0
ComesBefore set other =
    (length set < length other) ⊎ ((length set ≡ length other) × (bits_of set < bits_of other))

-- (a, b) is the least pair of the rest that is not joined by at most this many edges
pub record IsLeastApart (net : Network) (faulty : List ℕ) (most a b : ℕ) : Type 0 where
  pub ordered : a < b
  pub lesser : IsLoyal net faulty a
  pub greater : IsLoyal net faulty b
  pub apart : IsJoinedBy net faulty most a b → ⊥
  pub least : (x y : ℕ) → x < y → IsLoyal net faulty x → IsLoyal net faulty y → IsBefore (x, y) (a, b)
      → IsJoinedBy net faulty most x y

-- the first set of generals without whom two others are not joined by at most this many edges, and the
-- least such pair
pub record IsFirstCut (net : Network) (diameter : ℕ) (faulty : List ℕ) (a b : ℕ) : Type 0 where
  pub set : IsSetOf net faulty
  pub pair : IsLeastApart net faulty diameter a b
  pub first : (other : List ℕ) → IsSetOf net other → ComesBefore other faulty → AreJoinedBy net other diameter

-- the least diameter that would do with this many faulty generals; None says that none would
abbrev pub IsLeastDiameter : Network → ℕ → Option ℕ → Type 0
IsLeastDiameter net traitors None = (diameter : ℕ) → Withstands net traitors diameter → ⊥
IsLeastDiameter net traitors (Some least) = Withstands net traitors least
    × ((diameter : ℕ) → diameter < least → Withstands net traitors diameter → ⊥)

-- the most faulty generals that would do with this diameter; None says that not even none would
abbrev pub IsMostTraitors : Network → ℕ → Option ℕ → Type 0
IsMostTraitors net diameter None = (traitors : ℕ) → Withstands net traitors diameter → ⊥
IsMostTraitors net diameter (Some most) = Withstands net most diameter
    × ((traitors : ℕ) → most < traitors → Withstands net traitors diameter → ⊥)
