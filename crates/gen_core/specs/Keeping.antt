-- Laws of the logs that generals keep of a run.
use Rattle.std.specs.Prelude.{ℕ, ◌≡◌, List}
use Rattle.gen_net.specs.Network.{Network}
use Rattle.gen_net.specs.Run.{Run, IsRun}
use Rattle.gen_net.specs.Follows.{Conduct}
use Rattle.gen_net.specs.Log.{LogEntry, Keeps}

-- for each run, general and conduct there is a log
abbrev pub LogExists : Type 0
LogExists =
    (net : Network) (run : Run) (g : ℕ) (conduct : Conduct) → IsRun net run
    → (log : List LogEntry) × Keeps net run g conduct log

-- for each run, general and conduct there is only one log
abbrev pub OneLog : Type 0
OneLog =
    (net : Network) (run : Run) (g : ℕ) (conduct : Conduct) (log other : List LogEntry)
    → Keeps net run g conduct log → Keeps net run g conduct other → log ≡ other
