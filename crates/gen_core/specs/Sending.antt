-- What a follower has to send, and in which order.
use Rattle.std.specs.Prelude.{ℕ, ◌≡◌, ◌<◌, ◌↔◌, ◌⊎◌, List, [], ◌∷◌, ◌++◌, length, Contains, AllPairs, Option}
use Rattle.gen_net.specs.Network.{Network, rounds, AreNeighbours}
use Rattle.gen_core.specs.declared.sending.Outgoing.{Outgoing}
use Rattle.gen_core.specs.Seeing.{Picked}

-- the chain of this order and path, to this general
abbrev pub outgoing : ℕ → ℕ → List ℕ → Outgoing
outgoing to order path = record { to = to; order = order; path = path }

-- x goes before y: to a lesser receiver, or to the same receiver with a lesser order
abbrev pub GoesBefore : Outgoing → Outgoing → Type 0
GoesBefore x y = (x.to < y.to) ⊎ ((x.to ≡ y.to) × (x.order < y.order))

-- the commander has to send its order, signed by itself alone, to each neighbour
abbrev pub IsCommand : Network → ℕ → Outgoing → Type 0
IsCommand net own x = AreNeighbours net 0 x.to × (x.order ≡ own) × (x.path ≡ 0 ∷ [])

-- A chain that a lieutenant has to send: a picked path, lengthened by the lieutenant, to a neighbour that is
-- not in the longer path. The picked path has fewer than R signers, and the lieutenant is none of them.
pub record IsDue (net : Network) (g : ℕ) (adds : List (Option (List ℕ))) (x : Outgoing) : Type 0 where
  pub picked : List ℕ
  pub is_picked : Picked adds x.order picked
  pub in_time : length picked < rounds net
  pub new : Contains picked g → ⊥
  pub longer : x.path ≡ picked ++ g ∷ []
  pub neighbour : AreNeighbours net g x.to
  pub outside : Contains x.path x.to → ⊥

-- the list has exactly the chains with this property, each once, in order
pub record AreSends (P : Outgoing → Type 0) (out : List Outgoing) : Type 0 where
  pub exactly : (x : Outgoing) → Contains out x ↔ P x
  pub in_order : AllPairs GoesBefore out

-- exactly the elements with this property are added to the list
abbrev pub Appends : {X : Type 0} → (X → Type 0) → List X → List X → Type 0
Appends {X} P old new = (x : X) → Contains new x ↔ (Contains old x ⊎ P x)
