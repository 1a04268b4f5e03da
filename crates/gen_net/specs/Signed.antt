-- Runs in which all of the rest follow, and each message of a faulty general derives. This asks for more
-- than assumption A4 of section 4 of the paper of 1982. A faulty general sends a signature of the rest on
-- only in a later round than that in which one of the rest sent it to a faulty general.
use Rattle.std.specs.Prelude.{ℕ, ◌≡◌, ◌<◌, ◌⊎◌, List, [], ◌∷◌, ◌++◌, length, Contains, All}
use Rattle.gen_net.specs.Network.{Network, IsLoyal}
use Rattle.gen_types.specs.Ends.{BeginsWith}
use Rattle.gen_net.specs.declared.message.Message.{Message}
use Rattle.gen_net.specs.Run.{Run, IsRun}
use Rattle.gen_net.specs.Follows.{Conduct, Follows}

-- The message derives from a message of the same order that one of the rest sent to a faulty general in an
-- earlier round. That message's path begins with this one's path up to its last general of the rest. All
-- generals after that one are faulty.
pub record Derivation (net : Network) (faulty : List ℕ) (run : Run) (message : Message)
    : Type 0 where
  pub front : List ℕ
  pub last : ℕ
  pub after : List ℕ
  pub parts : message.path ≡ (front ++ last ∷ []) ++ after
  pub last_loyal : IsLoyal net faulty last
  pub nobody_after : All (λ g. IsLoyal net faulty g → ⊥) after
  pub source : Message
  pub sent : Contains run source
  pub from_loyal : IsLoyal net faulty source.from
  pub to_faulty : Contains faulty source.to
  pub same_order : source.order ≡ message.order
  pub earlier : length source.path < length message.path
  pub begun : BeginsWith source.path (front ++ last ∷ [])

-- The message forges no loyal signature: its path has none of the rest, or it derives from a message of the
-- rest.
abbrev pub IsDerivable : Network → List ℕ → Run → Message → Type 0
IsDerivable net faulty run message =
    All (λ g. IsLoyal net faulty g → ⊥) message.path ⊎ Derivation net faulty run message

-- A run for a set of faulty generals: each of the rest follows the algorithm, and every message from a faulty
-- general is derivable.
pub record IsSignedRun (net : Network) (faulty : List ℕ) (run : Run) (conducts : ℕ → Conduct)
    : Type 0 where
  pub run_of_net : IsRun net run
  pub follows : (g : ℕ) → IsLoyal net faulty g → Follows net run g (conducts g)
  pub derivable : (message : Message) → Contains run message → Contains faulty message.from
      → IsDerivable net faulty run message
