use Rattle.std.proofs.Common.{Contains, map, take, [], ◌∷◌, ◌++◌, ap, sym, subst, inl, inr, ◌∙◌}
use Rattle.std.proofs.lemmas.List.{take_more, take_all, map-append}
use Rattle.std.proofs.lemmas.List.Elements.{Contains-push_cases}
use Rattle.gen_log.specs.Fields.{AreBelow}
use Rattle.gen_local.specs.Report.{LocalReport, IsReport}
use Rattle.gen_net.specs.Header.{IsHeader}
use Rattle.gen_convict.specs.AcrossFinding.{RunReports}
use Rattle.gen_convict.specs.Seen.{seen_run}
use Rattle.gen_convict.proofs.across_finding.note_runs.Goals as goal

pub loop-run-preserved : goal.loop-run-preserved
loop-run-preserved c = λ run k.
    let xs = c.args.runs.now in
    let i = c.loop-run.run-index in
    let x = c.run-item.result in
    let longer = ap (map seen_run) (take_more xs i x c.loop-run-test.true ∙ ap (λ y. take i xs ++ y ∷ []) (sym c.run-item.is)) ∙ map-append seen_run (take i xs) (x ∷ []) in
    elim (Contains-push_cases (map seen_run (take i xs)) (seen_run x) run (subst (λ ys. Contains ys run) longer k)) [
      | inl old ↦ c.loop-run.invariant run old
      | inr e ↦ subst (λ (y : RunReports). IsHeader y.header × ((r : LocalReport) → Contains y.reports r → IsReport r × AreBelow 256 r.exhibit.bytes)) e (c.net-net.ensures.header, c.note_reports.ensures)
    ]

pub returns : goal.returns
returns c = λ run k. c.loop-run.invariant run (subst (λ ys. Contains (map seen_run ys) run) (sym (take_all c.loop-run.run-index c.args.runs.now c.loop-run-test.false)) k)
