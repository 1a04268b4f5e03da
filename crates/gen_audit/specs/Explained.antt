-- When one run explains the logs of the rest, and when nothing is found in the logs.
use Rattle.std.specs.Prelude.{ℕ, ◌≡◌, List, Some}
use Rattle.gen_net.specs.Network.{Network, IsLoyal}
use Rattle.gen_net.specs.Run.{Run}
use Rattle.gen_net.specs.Follows.{Conduct}
use Rattle.gen_net.specs.Signed.{IsSignedRun}
use Rattle.gen_net.specs.Log.{LogEntry, Keeps}
use Rattle.gen_net.specs.Departs.{IsFollowersLog}
use Rattle.gen_match.specs.Matching.{Logs, IsUnmatched, IsUnderivable}

-- One run explains the logs: a run for the faulty generals in which each of the rest follows and keeps
-- exactly its log.
pub record IsExplained (net : Network) (faulty : List ℕ) (logs : Logs) : Type 0 where
  pub run : Run
  pub conducts : ℕ → Conduct
  pub signed : IsSignedRun net faulty run conducts
  pub keeps : (g : ℕ) → IsLoyal net faulty g
      → (log : List LogEntry) × (logs g ≡ Some log) × Keeps net run g (conducts g) log

-- Nothing is found: each of the rest has a log that it could keep, no message is unmatched, and no received
-- chain is underivable.
pub record NothingFound (net : Network) (faulty : List ℕ) (logs : Logs) : Type 0 where
  pub each : (g : ℕ) → IsLoyal net faulty g → (log : List LogEntry) × (logs g ≡ Some log)
      × IsFollowersLog net g log
  pub matched : (a b l v : ℕ) → IsUnmatched net faulty logs a b l v → ⊥
  pub derivable : (a b l v : ℕ) → IsUnderivable net faulty logs a b l v → ⊥

-- if nothing is found, one run explains the logs
abbrev pub NothingFoundExplains : Type 0
NothingFoundExplains =
    (net : Network) (faulty : List ℕ) (logs : Logs) → NothingFound net faulty logs
    → IsExplained net faulty logs

-- if one run explains the logs, nothing is found
abbrev pub ExplainedFindsNothing : Type 0
ExplainedFindsNothing =
    (net : Network) (faulty : List ℕ) (logs : Logs) → IsExplained net faulty logs
    → NothingFound net faulty logs

-- such logs exist: if there is a signed run for the faulty generals, there are logs that some run explains
abbrev pub RunsHaveLogs : Type 0
RunsHaveLogs =
    (net : Network) (faulty : List ℕ) (run : Run) (conducts : ℕ → Conduct)
    → IsSignedRun net faulty run conducts
    → (logs : Logs) × IsExplained net faulty logs
