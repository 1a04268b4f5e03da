use Rattle.std.proofs.Common.{◌≤◌, take, length}
use Rattle.gen_local.specs.Report.{AreReportsOf}
use Rattle.gen_judge.proofs.reports.reports_among.Given as goal

abbrev pub invariant-loop-row : goal.invariant-loop-row
invariant-loop-row l = (l.place ≤ length l.exhibits) × AreReportsOf l.header (take l.place l.exhibits) l.reports.items
