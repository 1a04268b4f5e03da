-- The messages of a run, round by round, and what a general learns from them (SM(m), section 4 of the paper
-- of 1982, with messages to neighbours only, as in section 5).
use Rattle.std.specs.Prelude.{ℕ, ◌≡◌, ◌<◌, ◌≤◌, List, length, Contains}
use Rattle.gen_net.specs.declared.message.Message.{Message}
use Rattle.gen_net.specs.Network.{Network, rounds, AreNeighbours}
use Rattle.gen_types.specs.Ends.{EndsWith}
use Rattle.gen_net.specs.Chain.{IsChain}

-- All messages, read as a set. The round of a message is the length of its path.
abbrev pub Run : Type 0
Run = List Message

-- the message is one of round l
abbrev pub IsSent : Run → ℕ → Message → Type 0
IsSent run l message = Contains run message × (length message.path ≡ l)

-- the message may stand in a run: it is on an edge, its chain has at most R signers, of which the sender is
-- the last and the receiver is none
pub record IsWellFormed (net : Network) (message : Message) : Type 0 where
  pub on_edge : AreNeighbours net message.from message.to
  pub chain : IsChain net message.order message.path
  pub in_time : length message.path ≤ rounds net
  pub signer : EndsWith message.path message.from
  pub outside : Contains message.path message.to → ⊥

-- all messages are well formed, and in each round there is at most one for one sender, receiver and order
pub record IsRun (net : Network) (run : Run) : Type 0 where
  pub messages : (message : Message) → Contains run message → IsWellFormed net message
  pub once : (l : ℕ) (x y : Message) → IsSent run l x → IsSent run l y
      → x.from ≡ y.from → x.to ≡ y.to → x.order ≡ y.order → x ≡ y

-- the message is one of round l to g
abbrev pub Arrives : Run → ℕ → ℕ → Message → Type 0
Arrives run g l message = IsSent run l message × (message.to ≡ g)

-- a message of this order arrives at g in round l
abbrev pub OrderArrives : Run → ℕ → ℕ → ℕ → Type 0
OrderArrives run g l v = (message : Message) × Arrives run g l message × (message.order ≡ v)

-- g adds the order in round l: a message of it arrives then, and none before
pub record Adds (run : Run) (g l v : ℕ) : Type 0 where
  pub arrives : OrderArrives run g l v
  pub new : (k : ℕ) → k < l → OrderArrives run g k v → ⊥

-- the order is one of the set V of g
abbrev pub Accepts : Network → Run → ℕ → ℕ → Type 0
Accepts net run g v = (l : ℕ) × (l ≤ rounds net) × Adds run g l v

-- the pick gives, for each order that g adds, the path of one of the messages of it that arrive in that round
abbrev pub IsPick : Run → ℕ → (ℕ → List ℕ) → Type 0
IsPick run g pick = (l v : ℕ) → Adds run g l v
    → (message : Message) × Arrives run g l message × (message.order ≡ v) × (message.path ≡ pick v)
