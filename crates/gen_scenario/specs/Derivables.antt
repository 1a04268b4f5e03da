-- What faulty generals can send without forging a signature of the rest.
use Rattle.std.specs.Prelude.{ℕ, ◌≡◌, ◌<◌, List, ◌++◌, length, Contains, All}
use Rattle.gen_net.specs.Network.{Network, IsLoyal}
use Rattle.gen_types.specs.Ends.{BeginsWith}
use Rattle.gen_net.specs.declared.message.Message.{Message}
use Rattle.gen_net.specs.Run.{Run}
use Rattle.gen_net.specs.Signed.{IsDerivable}

-- a general of the rest sent the message to a faulty general
pub record IsHeard (net : Network) (faulty : List ℕ) (run : Run) (message : Message) : Type 0 where
  pub sent : Contains run message
  pub from_loyal : IsLoyal net faulty message.from
  pub to_faulty : Contains faulty message.to

-- The message has the order of the source and comes in a later round. Its path is a beginning of the source's
-- path, lengthened by faulty generals only.
pub record Prolongs (faulty : List ℕ) (source message : Message) : Type 0 where
  pub kept : List ℕ
  pub added : List ℕ
  pub path : message.path ≡ kept ++ added
  pub front : BeginsWith source.path kept
  pub by_faulty : All (λ g. Contains faulty g) added
  pub same_order : source.order ≡ message.order
  pub later : length source.path < length message.path

-- a message that only faulty generals have signed is derivable
abbrev pub SignedByFaulty : Type 0
SignedByFaulty =
    (net : Network) (faulty : List ℕ) (run : Run) (message : Message)
    → All (λ g. Contains faulty g) message.path
    → IsDerivable net faulty run message

-- a message that prolongs what the rest sent to a faulty general is derivable
abbrev pub ProlongedByFaulty : Type 0
ProlongedByFaulty =
    (net : Network) (faulty : List ℕ) (run : Run) (source message : Message)
    → IsHeard net faulty run source → Prolongs faulty source message
    → IsDerivable net faulty run message
