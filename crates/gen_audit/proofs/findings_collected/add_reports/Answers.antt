use Rattle.std.proofs.Common.{◌≡◌, List, Contains, sym, ap, ◌∙◌, subst, refl}
use Rattle.std.proofs.lemmas.Bool.{false≢true}
use Rattle.std.proofs.lemmas.List.{take_all}
use Rattle.gen_local.specs.Report.{LocalReport}
use Rattle.gen_audit.specs.Collecting.{AddsFindings, FindsRead}
use Rattle.gen_audit.proofs.Collecting.{next_read, inside_added, outside_added}
use Rattle.gen_audit.proofs.findings_collected.add_reports.Goals as goal
use Rattle.gen_audit.proofs.findings_collected.add_reports.Goals.{then-contains+in_ok-add_reading, else-contains}

pub loop-report-preserved : goal.loop-report-preserved
loop-report-preserved c =
    let rest = c.args.rest.now in
    let reports = c.args.reports.now in
    let i = c.loop-report.report-index in
    let r = c.report-item.result in
    let old = c.loop-report.findings.items in
    let next = next_read rest reports i r c.args.findings.now.items old in
    let g : c.general-general.result ≡ r.exhibit.general = c.general-general.ensures ∙ ap (λ x. x.general) c.exhibit.ensures in
    elim c.if-contains.branch [
      | then-contains+in_ok-add_reading w ↦ rw (w.findings-is, w.in_ok-add_reading.ensures, w.reading.ensures.value, g) (next _ c.loop-report-test.true c.report-item.is c.loop-report.invariant (inside_added rest r old (subst (Contains rest) g (w.if-contains.ensures.0 refl))))
      | else-contains w ↦ rw w.findings-is (next old c.loop-report-test.true c.report-item.is c.loop-report.invariant (outside_added rest r old (λ inside. false≢true (w.if-contains.ensures.1 (subst (Contains rest) (sym g) inside)))))
    ]

pub returns : goal.returns
returns c = subst (λ (rs : List LocalReport). AddsFindings (FindsRead c.args.rest.now rs) c.args.findings.now.items c.loop-report.findings.items) (take_all c.loop-report.report-index c.args.reports.now c.loop-report-test.false) c.loop-report.invariant
