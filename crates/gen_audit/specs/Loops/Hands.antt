-- What workers return: the reports of the exhibits that they took.
use Rattle.std.specs.Prelude.{ℕ, suc, List, length, ◌≡◌}
use Rattle.gen_net.specs.Header.{RunHeader}
use Rattle.gen_log.specs.Writing.{LogBytes}
use Rattle.gen_local.specs.Report.{LocalReport, AreReportsOf}
use Rattle.gen_audit.specs.declared.hands.Hand.{Hand}
use Rattle.gen_audit.specs.Loops.Dealing.{dealt, Each}

-- the reports are those of the exhibits that a worker takes
abbrev pub AreOfWorker : RunHeader → List LogBytes → ℕ → ℕ → List LocalReport → Type 0
AreOfWorker h exhibits last worker reports = AreReportsOf h (dealt last worker exhibits) reports

-- the hands of all workers when these exhibits are left, first the hand of the worker whose turn is next
pub record AreHands (h : RunHeader) (exhibits : List LogBytes) (last : ℕ) (hands : List Hand) : Type 0 where
  pub count : length hands ≡ suc last
  pub each : Each (λ k hand. AreReportsOf h (dealt last k exhibits) hand.reports.items) 0 hands
