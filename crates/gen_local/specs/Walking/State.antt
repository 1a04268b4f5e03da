-- A general's progress with each order after some entries of its log.
use Rattle.std.specs.Prelude.{ℕ, ◌≡◌, ◌+◌, ◌<◌, ◌≤◌, suc, List, length, Contains, Option, slice_index_or}
use Rattle.gen_net.specs.Network.{Network, AreNeighbours}
use Rattle.gen_net.specs.Log.{LogEntry, Started, Signed, Sent}
use Rattle.gen_local.specs.declared.progress.Progress.{Progress}
use Rattle.gen_local.specs.declared.progress.Progress.TheVariants.{Unlearnt, Learnt, Relayed}
use Rattle.gen_local.specs.Following.{Learns}
use Rattle.gen_local.specs.Keys.{key, IsSmall}

-- a SEND of the path is due to the general
abbrev pub IsDueTo : Network → ℕ → List ℕ → ℕ → Type 0
IsDueTo net g path to = AreNeighbours net g to × (Contains path to → ⊥)

-- the general hasn't signed or sent the order
pub record IsUnsigned (before : List LogEntry) (v : ℕ) : Type 0 where
  pub unsigned : (path : List ℕ) → Contains before (Signed v path) → ⊥
  pub unsent : (to : ℕ) (path : List ℕ) → Contains before (Sent to v path) → ⊥

-- the general hasn't learnt the order, nor signed it
pub record IsUnlearnt (net : Network) (g : ℕ) (before : List LogEntry) (v : ℕ) : Type 0 where
  pub unknown : (path : List ℕ) → Learns g before v path → ⊥
  pub not_yet : IsUnsigned before v

-- the general learnt the order first in this round, and hasn't signed it
pub record IsLearnt (net : Network) (g : ℕ) (before : List LogEntry) (v round : ℕ) : Type 0 where
  pub path : List ℕ
  pub learns : Learns g before v path
  pub len : length path ≡ round
  pub first : (other : List ℕ) → Learns g before v other → round ≤ length other
  pub not_yet : IsUnsigned before v

-- the general signed the order with this path alone, and sent it to all generals below next to which it is
-- due, and to none from next on
pub record IsRelayedBelow (net : Network) (g : ℕ) (before : List LogEntry) (v : ℕ) (path : List ℕ) (next : ℕ)
    : Type 0 where
  pub known : List ℕ
  pub learns : Learns g before v known
  pub first : (other : List ℕ) → Learns g before v other → length known ≤ length other
  pub len : length path ≡ length known + 1
  pub signed : Contains before (Signed v path)
  pub only : (other : List ℕ) → Contains before (Signed v other) → other ≡ path
  pub sent : (to : ℕ) → to < next → IsDueTo net g path to → Contains before (Sent to v path)
  pub unsent : (to : ℕ) (other : List ℕ) → Contains before (Sent to v other) → to < next
  pub due : next < net.generals → IsDueTo net g path next

-- this is the progress with the order after the entries
abbrev pub HasCome : Network → ℕ → List LogEntry → ℕ → Progress → Type 0
HasCome net g before v Unlearnt = IsUnlearnt net g before v
HasCome net g before v (Learnt round) = IsLearnt net g before v round
HasCome net g before v (Relayed path next) = IsRelayedBelow net g before v path next

-- orders is the progress with each order after these entries, and the next place has at least the number
-- least
pub record IsAfter (net : Network) (g : ℕ) (before : List LogEntry) (least : ℕ) (orders : List Progress)
    : Type 0 where
  pub all : length orders ≡ 16
  pub small : (x : LogEntry) → Contains before x → IsSmall x
  pub below : (x : LogEntry) → Contains before x → key net x < least
  pub last : (k : ℕ) → least ≡ suc k → (x : LogEntry) × Contains before x × (key net x ≡ k)
  pub started : 0 < least → (own : Option ℕ) × Contains before (Started g own)
  pub each : (v : ℕ) → v < 16 → HasCome net g before v (slice_index_or orders v Unlearnt)
