-- What the state after some entries says about the next entry.
use Rattle.std.specs.Prelude.{ℕ, ◌≡◌, ◌+◌, ◌<◌, ◌≤◌, ◌⊎◌, List, [], ◌∷◌, ◌++◌, length, slice_index_or}
use Rattle.gen_types.specs.Ascending.{IsListOf}
use Rattle.gen_net.specs.Network.{Network, rounds, choose}
use Rattle.gen_net.specs.Run.{IsWellFormed}
use Rattle.gen_net.specs.Log.{LogEntry, Started, Signed, Sent, Received, Decided}
use Rattle.gen_local.specs.declared.progress.Progress.{Progress}
use Rattle.gen_local.specs.declared.progress.Progress.TheVariants.{Unlearnt, Learnt, Relayed}
use Rattle.gen_local.specs.Following.{IsOwn}
use Rattle.gen_local.specs.Keys.{key, sign_key, send_key}
use Rattle.gen_local.specs.Recvs.{HasRecv}

-- the order v stands in the way of an entry at this place: it is due to be signed or sent at a place before
abbrev pub Stops : Network → ℕ → Progress → ℕ → Type 0
Stops net v Unlearnt at = ⊥
Stops net v (Learnt round) at = (round < rounds net) × (sign_key (round + 1) v < at)
Stops net v (Relayed path next) at = (next < net.generals) × (send_key (length path) next v < at)

abbrev pub AnyStops : Network → List Progress → ℕ → Type 0
AnyStops net orders at =
    (v : ℕ) × (v < 16) × Stops net v (slice_index_or orders v Unlearnt) at

-- the path is one by which g learnt the order in this round, followed by g
abbrev pub Lengthens : ℕ → List LogEntry → ℕ → ℕ → List ℕ → Type 0
Lengthens g before v round path =
    (picked : List ℕ) × (path ≡ picked ++ g ∷ []) × (length picked ≡ round)
    × ((picked ≡ []) ⊎ HasRecv before v picked)

-- g can sign the order with the path
abbrev pub CanSign : Network → ℕ → List LogEntry → ℕ → Progress → List ℕ → Type 0
CanSign net g before v Unlearnt path = ⊥
CanSign net g before v (Learnt round) path = (round < rounds net) × Lengthens g before v round path
CanSign net g before v (Relayed other next) path = ⊥

-- a SEND of the path to this general is the next one due
abbrev pub CanSend : Network → Progress → ℕ → List ℕ → Type 0
CanSend net Unlearnt to path = ⊥
CanSend net (Learnt round) to path = ⊥
CanSend net (Relayed other next) to path = (to < net.generals) × (next ≡ to) × (other ≡ path)

-- the order was learnt
abbrev pub IsKnown : Progress → Type 0
IsKnown Unlearnt = ⊥
IsKnown (Learnt round) = Unit {0}
IsKnown (Relayed path next) = Unit {0}

-- the state allows the entry
abbrev pub IsAllowed : Network → ℕ → List LogEntry → List Progress → LogEntry → Type 0
IsAllowed net g before orders (Started general own) = (general ≡ g) × IsOwn net g own
IsAllowed net g before orders (Signed v path) =
    CanSign net g before v (slice_index_or orders v Unlearnt) path
IsAllowed net g before orders (Sent to v path) = CanSend net (slice_index_or orders v Unlearnt) to path
IsAllowed net g before orders (Received from v path) =
    IsWellFormed net (record { from = from; to = g; order = v; path = path })
IsAllowed net g before orders (Decided set order) =
    IsListOf set (λ v. (v < 16) × IsKnown (slice_index_or orders v Unlearnt)) × (order ≡ choose net set)

-- the entry is START, or there is an entry before it
abbrev pub HasStarted : ℕ → LogEntry → Type 0
HasStarted least (Started general own) = Unit {0}
HasStarted least (Signed v path) = 0 < least
HasStarted least (Sent to v path) = 0 < least
HasStarted least (Received from v path) = 0 < least
HasStarted least (Decided set order) = 0 < least

-- the entry stands in its place, nothing due before it is left out, and the state allows it
pub record IsJudged (net : Network) (g : ℕ) (before : List LogEntry) (least : ℕ) (orders : List Progress)
    (e : LogEntry) : Type 0 where
  pub in_place : least ≤ key net e
  pub started : HasStarted least e
  pub clear : AnyStops net orders (key net e) → ⊥
  pub allowed : IsAllowed net g before orders e
