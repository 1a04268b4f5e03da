use Rattle.std.proofs.Common.{Contains, take}
use Rattle.gen_log.specs.Fields.{AreBelow}
use Rattle.gen_local.specs.Report.{LocalReport, IsReport}
use Rattle.gen_convict.proofs.finding.note_reports.Given as goal

abbrev pub invariant-loop-report : goal.invariant-loop-report
invariant-loop-report l = (r : LocalReport) → Contains (take l.report-index l.reports) r → IsReport r × AreBelow 256 r.exhibit.bytes
