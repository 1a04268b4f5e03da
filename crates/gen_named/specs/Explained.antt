-- When one run of values explains the logs of the rest, each of which is written under its general's own
-- names: exactly where each is a follower's log of versions 1 and 2, the logs match by their values, and what
-- comes from the faulty derives.
use Rattle.std.specs.Prelude.{ℕ, ◌≡◌, ◌≢◌, ◌<◌, ◌≤◌, ◌↔◌, ◌⊎◌, List, [], ◌∷◌, ◌++◌, length, Contains, All, Some}
use Rattle.gen_types.specs.Ends.{BeginsWith}
use Rattle.gen_net.specs.Network.{Network, IsLoyal}
use Rattle.gen_net.specs.Run.{Run}
use Rattle.gen_net.specs.Log.{LogEntry, Started, Sent, Received, Keeps}
use Rattle.gen_net.specs.Departs.{IsFollowersLog}
use Rattle.gen_named.specs.Named.{Names, IsName, AreNames, Part, IsNamedRun}

-- a run of values exists in which everybody of the rest follows under these names and keeps exactly these
-- logs
pub record RunExists (bound : ℕ) (net : Network) (faulty : List ℕ) (names : ℕ → Names)
    (logs : ℕ → List LogEntry) : Type 0 where
  pub run : Run
  pub parts : ℕ → Part
  pub signed : IsNamedRun bound net faulty run parts
  pub named : (g : ℕ) → IsLoyal net faulty g → (parts g).names ≡ names g
  pub keeps : (g : ℕ) → IsLoyal net faulty g → Keeps net (parts g).mine g (parts g).conduct (logs g)

-- each order of START, of a SEND and of a RECV is a name
pub record OrdersAreNames (names : Names) (log : List LogEntry) : Type 0 where
  pub started : (g i : ℕ) → Contains log (Started g (Some i)) → IsName names i
  pub sent : (to i : ℕ) (path : List ℕ) → Contains log (Sent to i path) → IsName names i
  pub received : (from i : ℕ) (path : List ℕ) → Contains log (Received from i path) → IsName names i

-- the log has a SEND, or a RECV, of this value under its names
abbrev pub HasSend : Names → List LogEntry → ℕ → ℕ → List ℕ → Type 0
HasSend names log to v path = (i : ℕ) × (names i ≡ Some v) × Contains log (Sent to i path)

abbrev pub HasRecv : Names → List LogEntry → ℕ → ℕ → List ℕ → Type 0
HasRecv names log from v path = (i : ℕ) × (names i ≡ Some v) × Contains log (Received from i path)

-- RECVs of two orders came by round l
abbrev pub IsFullBy : List LogEntry → ℕ → Type 0
IsFullBy log l =
    (i : ℕ) × (j : ℕ) × (from : ℕ) × (other : ℕ) × (p : List ℕ) × (q : List ℕ) × (i ≢ j)
    × (length p ≤ l) × (length q ≤ l) × Contains log (Received from i p) × Contains log (Received other j q)

-- the value has no name, and two others came by round l: so it is left out
abbrev pub IsLeftOut : Names → List LogEntry → ℕ → ℕ → Type 0
IsLeftOut names log v l = ((i : ℕ) → names i ≡ Some v → ⊥) × IsFullBy log l

-- the path derives from a shorter SEND of its value by one of the rest to one of the faulty
pub record LogDerivation (net : Network) (faulty : List ℕ) (names : ℕ → Names) (logs : ℕ → List LogEntry)
    (value : ℕ) (path : List ℕ) : Type 0 where
  pub front : List ℕ
  pub last : ℕ
  pub after : List ℕ
  pub parts : path ≡ (front ++ last ∷ []) ++ after
  pub last_loyal : IsLoyal net faulty last
  pub nobody_after : All (λ g. IsLoyal net faulty g → ⊥) after
  pub from : ℕ
  pub to : ℕ
  pub source : List ℕ
  pub from_rest : IsLoyal net faulty from
  pub to_faulty : Contains faulty to
  pub sent : HasSend (names from) (logs from) to value source
  pub earlier : length source < length path
  pub begun : BeginsWith source (front ++ last ∷ [])

-- what is looked at: each log alone, each edge of the rest, each RECV from the faulty
pub record LogsFit (bound : ℕ) (net : Network) (faulty : List ℕ) (names : ℕ → Names)
    (logs : ℕ → List LogEntry) : Type 0 where
  pub names_ok : (g : ℕ) → IsLoyal net faulty g → AreNames bound (names g)
  pub orders : (g : ℕ) → IsLoyal net faulty g → OrdersAreNames (names g) (logs g)
  pub each : (g : ℕ) → IsLoyal net faulty g → IsFollowersLog net g (logs g)
  pub sent : (a b v : ℕ) (path : List ℕ) → IsLoyal net faulty a → IsLoyal net faulty b
      → HasSend (names a) (logs a) b v path
      → HasRecv (names b) (logs b) a v path ⊎ IsLeftOut (names b) (logs b) v (length path)
  pub received : (a b v : ℕ) (path : List ℕ) → IsLoyal net faulty a → IsLoyal net faulty b
      → HasRecv (names b) (logs b) a v path → HasSend (names a) (logs a) b v path
  pub derived : (a b v : ℕ) (path : List ℕ) → Contains faulty a → IsLoyal net faulty b
      → HasRecv (names b) (logs b) a v path
      → All (λ g. IsLoyal net faulty g → ⊥) path ⊎ LogDerivation net faulty names logs v path

-- one run of values explains the logs if and only if they fit
abbrev pub FitIsExplained : Type 0
FitIsExplained =
    (bound : ℕ) (net : Network) (faulty : List ℕ) (names : ℕ → Names) (logs : ℕ → List LogEntry)
    → LogsFit bound net faulty names logs ↔ RunExists bound net faulty names logs
