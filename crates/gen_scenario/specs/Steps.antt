-- Steps by which loops follow the definitions, and the messages of the run frame by frame.
use Rattle.std.specs.Prelude.{ℕ, ◌≡◌, ◌<◌, ◌≤◌, ◌+◌, ◌↔◌, List, [], ◌∷◌, ◌++◌, length, Contains}
use Rattle.gen_net.specs.Network.{IsNetwork, rounds, AreNeighbours}
use Rattle.gen_net.specs.declared.message.Message.{Message}
use Rattle.gen_chain.specs.Chain.{Chain, signed_path}
use Rattle.gen_chain.specs.Making.{begun, extended}
use Rattle.gen_scenario.specs.Scenario.{Scenario}
use Rattle.gen_scenario.specs.Signing.{Keys, order_key, made, lengthened}
use Rattle.gen_scenario.specs.Frames.{frame_of}
use Rattle.gen_scenario.specs.SignedWorld.{sender_of, heard_in, heard_by, frame_at, counted_at, messages_of}

-- the message is a chain that counts in the frame of its round
pub record IsCounted (s : Scenario) (m : Message) : Type 0 where
  pub near : AreNeighbours s.net m.from m.to
  pub some : 0 < length m.path
  pub in_time : length m.path ≤ rounds s.net
  pub chain : Chain
  pub counts : Contains (counted_at s (length m.path) m.from m.to) chain
  pub order_is : chain.order ≡ m.order
  pub path_is : signed_path chain.signers ≡ m.path

-- the messages of the run are exactly these
abbrev pub MessagesCount : Type 0
MessagesCount = (s : Scenario) → IsNetwork s.net → (m : Message) → Contains (messages_of s) m ↔ IsCounted s m

-- what is heard after one more round, and the frames of that round
abbrev pub OneRoundMore : Type 0
OneRoundMore =
    (s : Scenario) (k g : ℕ) → heard_by s (k + 1) g ≡ heard_by s k g ++ heard_in s (heard_by s k) (k + 1) g

abbrev pub FrameAfter : Type 0
FrameAfter =
    (s : Scenario) (k from to : ℕ)
    → frame_at s (k + 1) from to ≡ frame_of (sender_of s from) (heard_by s k from) (k + 1) to

-- a chain grows by one signer at a time: the commander begins it, and one general after another lengthens it
abbrev pub OneSignerMore : Type 0
OneSignerMore =
    (k : Keys) (c : Chain) (path : List ℕ) (g : ℕ)
    → lengthened k c (path ++ g ∷ []) ≡ extended k.header (lengthened k c path) g (order_key k g c.order)

abbrev pub BegunByCommander : Type 0
BegunByCommander =
    (k : Keys) (order : ℕ) (path : List ℕ)
    → made k order (0 ∷ path) ≡ lengthened k (begun k.header order (order_key k 0 order)) path
