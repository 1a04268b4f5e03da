use Rattle.std.proofs.Common.{take, Contains}
use Rattle.gen_local.specs.Report.{LocalReport}
use Rattle.gen_audit.specs.Collecting.{ReadsAsOwn}
use Rattle.gen_audit.proofs.audits.decision_of.Given as goal

abbrev pub invariant-loop-report : goal.invariant-loop-report
invariant-loop-report l = (r : LocalReport) → Contains (take l.report-index l.reports) r → ReadsAsOwn r l.general → ⊥
