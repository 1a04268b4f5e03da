-- How an entry updates the progress with its order.
use Rattle.std.specs.Prelude.{ℕ, ◌≡◌, ◌+◌, ◌<◌, ◌≤◌, List, length, Some, None, slice_index_or}
use Rattle.gen_net.specs.Network.{Network}
use Rattle.gen_net.specs.Log.{LogEntry, Started, Signed, Sent, Received, Decided}
use Rattle.gen_local.specs.declared.progress.Progress.{Progress}
use Rattle.gen_local.specs.declared.progress.Progress.TheVariants.{Unlearnt, Learnt, Relayed}
use Rattle.gen_local.specs.Walking.State.{IsDueTo}

-- next is the least general, at or above from, to which the path is due, or n if there is none
pub record IsNextDue (net : Network) (g : ℕ) (path : List ℕ) (from next : ℕ) : Type 0 where
  pub after : from ≤ next
  pub few : next ≤ net.generals
  pub due : next < net.generals → IsDueTo net g path next
  pub least : (to : ℕ) → from ≤ to → to < next → IsDueTo net g path to → ⊥

-- a SEND goes to a general of the network
abbrev pub SendsInside : Network → LogEntry → Type 0
SendsInside net (Started general own) = Unit {0}
SendsInside net (Signed v path) = Unit {0}
SendsInside net (Sent to v path) = to < net.generals
SendsInside net (Received from v path) = Unit {0}
SendsInside net (Decided set order) = Unit {0}

-- new is the progress with order v after the entry, from the progress old before it
abbrev pub Brings : Network → ℕ → ℕ → Progress → LogEntry → Progress → Type 0
Brings net g v old (Started general None) new = new ≡ old
Brings net g v old (Started general (Some own)) new = new ≡ Learnt 0
Brings net g v old (Signed order path) new =
    (next : ℕ) × IsNextDue net g path 0 next × (new ≡ Relayed path next)
Brings net g v old (Sent to order path) new =
    (next : ℕ) × IsNextDue net g path (to + 1) next × (new ≡ Relayed path next)
Brings net g v Unlearnt (Received from order path) new = new ≡ Learnt (length path)
Brings net g v (Learnt round) (Received from order path) new = new ≡ Learnt round
Brings net g v (Relayed path' next) (Received from order path) new = new ≡ Relayed path' next
Brings net g v old (Decided set order) new = new ≡ old

-- the entry is about order v
abbrev pub IsOf : ℕ → LogEntry → Type 0
IsOf v (Started general None) = ⊥
IsOf v (Started general (Some own)) = own ≡ v
IsOf v (Signed order path) = order ≡ v
IsOf v (Sent to order path) = order ≡ v
IsOf v (Received from order path) = order ≡ v
IsOf v (Decided set order) = ⊥

-- the entry updates the progress with its own order, and leaves that with the others
pub record AreBrought (net : Network) (g : ℕ) (old : List Progress) (e : LogEntry) (new : List Progress)
    : Type 0 where
  pub all : length new ≡ 16
  pub own : (v : ℕ) → v < 16 → IsOf v e
      → Brings net g v (slice_index_or old v Unlearnt) e (slice_index_or new v Unlearnt)
  pub others : (v : ℕ) → v < 16 → (IsOf v e → ⊥)
      → slice_index_or new v Unlearnt ≡ slice_index_or old v Unlearnt
