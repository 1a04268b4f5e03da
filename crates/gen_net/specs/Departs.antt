-- The logs that a follower could keep, and the place at which a list of entries departs from every one of
-- them.
use Rattle.std.specs.Prelude.{ℕ, ◌+◌, ◌<◌, List, ◌++◌, length, take}
use Rattle.gen_net.specs.Network.{Network}
use Rattle.gen_net.specs.Run.{Run, IsRun}
use Rattle.gen_net.specs.Follows.{Conduct, Follows}
use Rattle.gen_net.specs.Log.{LogEntry, Keeps}

-- a log that g could keep: there is a run in which g follows the algorithm and keeps it
pub record IsFollowersLog (net : Network) (g : ℕ) (log : List LogEntry) : Type 0 where
  pub run : Run
  pub conduct : Conduct
  pub run_of_net : IsRun net run
  pub follows : Follows net run g conduct
  pub keeps : Keeps net run g conduct log

-- the entries begin a log that g could keep
abbrev pub Begins : Network → ℕ → List LogEntry → Type 0
Begins net g entries = (rest : List LogEntry) × IsFollowersLog net g (entries ++ rest)

-- the list departs at p: its first p entries begin a log that g could keep, and its first p + 1 don't
abbrev pub DepartsAt : Network → ℕ → List LogEntry → ℕ → Type 0
DepartsAt net g entries p =
    (p < length entries) × Begins net g (take p entries) × (Begins net g (take (p + 1) entries) → ⊥)
