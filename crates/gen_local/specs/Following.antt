-- Which entry may follow the entries before it in a log that a follower keeps, judged from those entries
-- alone.
use Rattle.std.specs.Prelude.{ℕ, ◌≡◌, ◌≢◌, ◌<◌, ◌≤◌, ◌⊎◌, List, [], ◌∷◌, ◌++◌, length, Contains, Option, Some, None}
use Rattle.gen_types.specs.Ascending.{IsListOf}
use Rattle.gen_net.specs.Network.{Network, rounds, choose, AreNeighbours}
use Rattle.gen_net.specs.Run.{IsWellFormed}
use Rattle.gen_net.specs.Log.{LogEntry, Started, Signed, Sent, Received, Decided, place, Precedes}

-- The entries give g the order by this path: START gives the commander its own order by the empty path, and a
-- RECV gives its order by its path.
abbrev pub Learns : ℕ → List LogEntry → ℕ → List ℕ → Type 0
Learns g before v path =
    (Contains before (Started g (Some v)) × (path ≡ []))
    ⊎ ((from : ℕ) × Contains before (Received from v path))

-- g is to sign the order with this path: the path is a shortest one by which g learnt the order, shorter than
-- R, followed by g
pub record IsToSign (net : Network) (g : ℕ) (before : List LogEntry) (v : ℕ) (path : List ℕ)
    : Type 0 where
  pub picked : List ℕ
  pub learns : Learns g before v picked
  pub shortest : (other : List ℕ) → Learns g before v other → length picked ≤ length other
  pub in_time : length picked < rounds net
  pub longer : path ≡ picked ++ g ∷ []

-- the commander has one of the network's orders of its own, and a lieutenant has none
abbrev pub IsOwn : Network → ℕ → Option ℕ → Type 0
IsOwn net g None = g ≢ 0
IsOwn net g (Some v) = (g ≡ 0) × (v < net.orders)

-- these entries allow the entry
abbrev pub IsSound : Network → ℕ → List LogEntry → LogEntry → Type 0
IsSound net g before (Started general own) = (general ≡ g) × IsOwn net g own
IsSound net g before (Signed order path) = IsToSign net g before order path
IsSound net g before (Sent to order path) =
    Contains before (Signed order path) × AreNeighbours net g to × (Contains path to → ⊥)
IsSound net g before (Received from order path) =
    IsWellFormed net (record { from = from; to = g; order = order; path = path })
IsSound net g before (Decided orders order) =
    IsListOf orders (λ v. (path : List ℕ) × Learns g before v path) × (order ≡ choose net orders)

-- The entry may follow these entries: its place is after theirs, they allow it, and nothing that is due
-- before it is left out.
pub record MayFollow (net : Network) (g : ℕ) (before : List LogEntry) (e : LogEntry) : Type 0 where
  pub in_place : (x : LogEntry) → Contains before x → Precedes (place net x) (place net e)
  pub sound : IsSound net g before e
  pub started : Precedes (0 ∷ []) (place net e) → (own : Option ℕ) × Contains before (Started g own)
  pub signed : (v : ℕ) (path : List ℕ) → IsToSign net g before v path
      → Precedes (length path ∷ 0 ∷ v ∷ []) (place net e)
      → (other : List ℕ) × Contains before (Signed v other)
  pub sent : (to v : ℕ) (path : List ℕ) → Contains before (Signed v path) → AreNeighbours net g to
      → (Contains path to → ⊥) → Precedes (length path ∷ 1 ∷ to ∷ v ∷ []) (place net e)
      → Contains before (Sent to v path)

-- each of the entries may follow those before it
abbrev pub GoesOn : Network → ℕ → List LogEntry → Type 0
GoesOn net g entries =
    (before after : List LogEntry) (e : LogEntry) → entries ≡ before ++ e ∷ after
    → MayFollow net g before e
