-- A network of generals, and which of them are loyal: the graph of section 5 of the paper of 1982.
use Rattle.std.specs.Prelude.{ℕ, ◌≡◌, ◌+◌, ◌<◌, ◌≤◌, ◌⊎◌, List, Contains, AllPairs}
use Rattle.gen_types.specs.declared.choices.ChoiceKind.{ChoiceKind}
use Rattle.gen_types.specs.ChoiceOf.{choice_of}

-- A network has generals 0..n-1, with 0 as the commander, and edges, which are unordered pairs of them. It
-- has the numbers m of traitors and d of the diameter that a run is planned for, the number q of orders
-- 0..q-1, and the choice.
pub record Network : Type 0 where
  pub generals : ℕ
  pub edges : List (ℕ × ℕ)
  pub traitors : ℕ
  pub diameter : ℕ
  pub orders : ℕ
  pub choice : ChoiceKind

-- the number of rounds, R = m + d
abbrev pub rounds : Network → ℕ
rounds net = net.traitors + net.diameter

-- the order that the network's choice makes of the ascending list of a set of orders
abbrev pub choose : Network → List ℕ → ℕ
choose net = choice_of net.choice

-- an edge joins a and b
abbrev pub AreNeighbours : Network → ℕ → ℕ → Type 0
AreNeighbours net a b = Contains net.edges (a, b) ⊎ Contains net.edges (b, a)

-- g is a general of the rest: below n, and not among the faulty
abbrev pub IsLoyal : Network → List ℕ → ℕ → Type 0
IsLoyal net faulty g = (g < net.generals) × (Contains faulty g → ⊥)

-- the edge e stands before the edge f
abbrev pub IsBefore : ℕ × ℕ → ℕ × ℕ → Type 0
IsBefore e f = (e.0 < f.0) ⊎ ((e.0 ≡ f.0) × (e.1 < f.1))

-- n, m, d and q are in their ranges
pub record AreInRange (generals traitors diameter orders : ℕ) : Type 0 where
  pub some_generals : 2 ≤ generals
  pub few_generals : generals ≤ 16
  pub few_traitors : traitors ≤ 8
  pub some_diameter : 1 ≤ diameter
  pub few_diameter : diameter ≤ 15
  pub few_rounds : traitors + diameter ≤ 16
  pub some_orders : 2 ≤ orders
  pub few_orders : orders ≤ 15

-- each edge (a, b) has a < b < n, and the edges ascend strictly
pub record AreEdges (generals : ℕ) (edges : List (ℕ × ℕ)) : Type 0 where
  pub inside : (a b : ℕ) → Contains edges (a, b) → (a < b) × (b < generals)
  pub ascending : AllPairs IsBefore edges

-- what every network keeps: its numbers are in their ranges, and its edges in their places
pub record IsNetwork (net : Network) : Type 0 where
  pub ranges : AreInRange net.generals net.traitors net.diameter net.orders
  pub edges : AreEdges net.generals net.edges
