-- What makes a received chain derivable, once the last general of the rest in its path is found.
use Rattle.std.specs.Prelude.{ℕ, ◌≡◌, ◌<◌, ◌↔◌, List, [], ◌∷◌, ◌++◌, length, Contains, All}
use Rattle.gen_net.specs.Network.{Network, IsLoyal}
use Rattle.gen_types.specs.Ends.{BeginsWith}
use Rattle.gen_net.specs.Log.{Sent}
use Rattle.gen_match.specs.Matching.{Logs, Logged, IsDerivableFromLogs}

-- A general of the rest logged a SEND of this order to a faulty general; its path is shorter than the given
-- path and starts with begin.
pub record HasSource (net : Network) (faulty : List ℕ) (logs : Logs) (v : ℕ) (path begin : List ℕ) :
    Type 0 where
  pub from : ℕ
  pub to : ℕ
  pub source : List ℕ
  pub from_rest : IsLoyal net faulty from
  pub to_faulty : Contains faulty to
  pub sent : Logged logs from (Sent to v source)
  pub earlier : length source < length path
  pub begun : BeginsWith source begin

-- if the path is split after its last general of the rest, it is derivable if and only if its front has a
-- source
abbrev pub DerivableAtLast : Type 0
DerivableAtLast =
    (net : Network) (faulty : List ℕ) (logs : Logs) (v : ℕ) (path front : List ℕ) (last : ℕ) (forged : List ℕ)
    → path ≡ (front ++ last ∷ []) ++ forged → IsLoyal net faulty last
    → All (λ g. IsLoyal net faulty g → ⊥) forged
    → IsDerivableFromLogs net faulty logs v path ↔ HasSource net faulty logs v path (front ++ last ∷ [])
