use Rattle.std.proofs.Common.{Contains, take, [], ◌∷◌, ◌++◌, ap, sym, subst, inl, inr, ◌∙◌}
use Rattle.std.proofs.lemmas.List.{take_more, take_all}
use Rattle.std.proofs.lemmas.List.Elements.{Contains-push_cases}
use Rattle.gen_log.specs.Fields.{AreBelow}
use Rattle.gen_local.specs.Report.{LocalReport, IsReport}
use Rattle.gen_convict.proofs.finding.note_reports.Goals as goal

pub loop-report-preserved : goal.loop-report-preserved
loop-report-preserved c = λ r k.
    let xs = c.args.reports.now in
    let i = c.loop-report.report-index in
    let x = c.report-item.result in
    elim (Contains-push_cases (take i xs) x r (subst (λ ys. Contains ys r) (take_more xs i x c.loop-report-test.true ∙ ap (λ y. take i xs ++ y ∷ []) (sym c.report-item.is)) k)) [
      | inl old ↦ c.loop-report.invariant r old
      | inr e ↦ subst (λ (y : LocalReport). IsReport y × AreBelow 256 y.exhibit.bytes) e (c.reading-reading.ensures.report, rw (c.log.ensures, c.exhibit.ensures) at c.note_bytes.ensures)
    ]

pub returns : goal.returns
returns c = λ r k. c.loop-report.invariant r (subst (λ ys. Contains ys r) (sym (take_all c.loop-report.report-index c.args.reports.now c.loop-report-test.false)) k)
