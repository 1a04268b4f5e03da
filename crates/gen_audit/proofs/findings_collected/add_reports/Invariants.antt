use Rattle.std.proofs.Common.{take}
use Rattle.gen_audit.specs.Collecting.{AddsFindings, FindsRead}
use Rattle.gen_audit.proofs.findings_collected.add_reports.Given as goal

abbrev pub invariant-loop-report : goal.invariant-loop-report
invariant-loop-report l = AddsFindings (FindsRead l.rest (take l.report-index l.reports)) l.fn.findings.items l.findings.items
