use Rattle.std.proofs.Common.{Contains, take, map}
use Rattle.gen_log.specs.Fields.{AreBelow}
use Rattle.gen_local.specs.Report.{LocalReport, IsReport}
use Rattle.gen_net.specs.Header.{IsHeader}
use Rattle.gen_convict.specs.AcrossFinding.{RunReports}
use Rattle.gen_convict.specs.Seen.{seen_run}
use Rattle.gen_convict.proofs.across_finding.note_runs.Given as goal

abbrev pub invariant-loop-run : goal.invariant-loop-run
invariant-loop-run l =
    (run : RunReports) → Contains (map seen_run (take l.run-index l.runs)) run → IsHeader run.header × ((r : LocalReport) → Contains run.reports r → IsReport r × AreBelow 256 r.exhibit.bytes)
