-- The logs of the rest matched with one another: messages that only one of two logs has, and received chains
-- that derive from nothing.
use Rattle.std.specs.Prelude.{ℕ, ◌≡◌, ◌<◌, ◌⊎◌, List, [], ◌∷◌, ◌++◌, length, Contains, All, Option, Some}
use Rattle.gen_net.specs.Network.{Network, IsLoyal}
use Rattle.gen_types.specs.Ends.{BeginsWith}
use Rattle.gen_net.specs.Log.{LogEntry, Sent, Received}
use Rattle.gen_match.specs.declared.finding.Finding.{Finding}
use Rattle.gen_match.specs.declared.finding.Finding.TheVariants.{Unmatched, Underivable}

-- The logs that are matched: for each general the entries of its log, if it has one that counts.
abbrev pub Logs : Type 0
Logs = ℕ → Option (List LogEntry)

-- g has a log that counts
abbrev pub HasLog : Logs → ℕ → Type 0
HasLog logs g = (log : List LogEntry) × (logs g ≡ Some log)

-- g has a log that counts, and it has this entry
abbrev pub Logged : Logs → ℕ → LogEntry → Type 0
Logged logs g e = (log : List LogEntry) × (logs g ≡ Some log) × Contains log e

-- Either a SEND of a to b has no RECV of equal order and path, or a RECV of b from a has no such SEND.
abbrev pub IsOneSided : Logs → ℕ → ℕ → ℕ → List ℕ → Type 0
IsOneSided logs a b v path =
    (Logged logs a (Sent b v path) × (Logged logs b (Received a v path) → ⊥))
    ⊎ (Logged logs b (Received a v path) × (Logged logs a (Sent b v path) → ⊥))

-- a and b are of the rest and have logs that count; one of these logs has a message from a to b, of order v
-- and round l, that the other doesn't have
pub record IsUnmatched (net : Network) (faulty : List ℕ) (logs : Logs) (a b l v : ℕ) : Type 0 where
  pub from_rest : IsLoyal net faulty a
  pub from_log : HasLog logs a
  pub to_rest : IsLoyal net faulty b
  pub to_log : HasLog logs b
  pub path : List ℕ
  pub round : length path ≡ l
  pub one_sided : IsOneSided logs a b v path

-- The path, up to its last general of the rest, begins the path of a shorter SEND of this order by a general
-- of the rest to a faulty general.
pub record DerivesFromLogs (net : Network) (faulty : List ℕ) (logs : Logs) (v : ℕ) (path : List ℕ) :
    Type 0 where
  pub front : List ℕ
  pub last : ℕ
  pub after : List ℕ
  pub parts : path ≡ (front ++ last ∷ []) ++ after
  pub last_loyal : IsLoyal net faulty last
  pub nobody_after : All (λ g. IsLoyal net faulty g → ⊥) after
  pub from : ℕ
  pub to : ℕ
  pub source : List ℕ
  pub from_rest : IsLoyal net faulty from
  pub to_faulty : Contains faulty to
  pub sent : Logged logs from (Sent to v source)
  pub earlier : length source < length path
  pub begun : BeginsWith source (front ++ last ∷ [])

-- as far as the logs tell, the path has no general of the rest, or it derives from what the rest sent
abbrev pub IsDerivableFromLogs : Network → List ℕ → Logs → ℕ → List ℕ → Type 0
IsDerivableFromLogs net faulty logs v path =
    All (λ g. IsLoyal net faulty g → ⊥) path ⊎ DerivesFromLogs net faulty logs v path

-- b is of the rest, and its log has a RECV from the faulty a, of order v and round l, that isn't derivable
pub record IsUnderivable (net : Network) (faulty : List ℕ) (logs : Logs) (a b l v : ℕ) : Type 0 where
  pub from_faulty : Contains faulty a
  pub to_rest : IsLoyal net faulty b
  pub path : List ℕ
  pub round : length path ≡ l
  pub received : Logged logs b (Received a v path)
  pub not_derivable : IsDerivableFromLogs net faulty logs v path → ⊥

-- the finding is that only one of two logs has a message
abbrev pub FindsUnmatched : Network → List ℕ → Logs → Finding → Type 0
FindsUnmatched net faulty logs (Unmatched a b l v) = IsUnmatched net faulty logs a b l v
FindsUnmatched net faulty logs _ = ⊥

-- the finding is that a received chain derives from nothing that the rest sent
abbrev pub FindsUnderivable : Network → List ℕ → Logs → Finding → Type 0
FindsUnderivable net faulty logs (Underivable a b l v) = IsUnderivable net faulty logs a b l v
FindsUnderivable net faulty logs _ = ⊥
