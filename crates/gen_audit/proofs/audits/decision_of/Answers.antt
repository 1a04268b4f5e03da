use Rattle.std.proofs.Common.{List, Contains, sym, subst}
use Rattle.std.proofs.lemmas.List.Elements.{Contains-get_or}
use Rattle.std.proofs.lemmas.List.{take_all}
use Rattle.gen_local.specs.Report.{LocalReport}
use Rattle.gen_audit.specs.Collecting.{ReadsAsOwn}
use Rattle.gen_audit.proofs.Decided.{none_more, somebody_decided, is_decision}
use Rattle.gen_audit.proofs.audits.decision_of.Goals as goal

pub returns-in-Some-clause-decision : goal.returns-in-Some-clause-decision
returns-in-Some-clause-decision c =
    let i = c.loop-report.report-index in
    let there : Contains c.args.reports.now c.report-item.result = rw c.report-item.is (Contains-get_or c.args.reports.now i c.report-item.result c.loop-report-test.true) in
    is_decision c.args.bundle.now c.requires.bundle c.requires.clean c.args.reports.now c.requires.reports c.args.general c.requires.of_rest c.report-item.result there c.in-Some.decision c.in-Some.ensures.some

pub loop-report-preserved : goal.loop-report-preserved
loop-report-preserved c =
    let i = c.loop-report.report-index in
    none_more c.args.general c.args.reports.now i c.report-item.result c.loop-report-test.true c.loop-report.invariant (subst (λ (x : LocalReport). ReadsAsOwn x c.args.general → ⊥) c.report-item.is c.in_default.ensures.none)

pub unreachable-requires : goal.unreachable-requires
unreachable-requires c =
    let d = somebody_decided c.args.bundle.now c.requires.bundle c.requires.clean c.args.reports.now c.requires.reports c.args.general c.requires.of_rest in
    c.loop-report.invariant d.0 (subst (λ (rs : List LocalReport). Contains rs d.0) (sym (take_all c.loop-report.report-index c.args.reports.now c.loop-report-test.false)) d.1) d.2
