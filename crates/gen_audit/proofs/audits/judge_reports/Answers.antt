use Rattle.std.proofs.Common.{List, sym, ◌∙◌, subst}
use Rattle.std.proofs.lemmas.List.Elements.{All-contains}
use Rattle.gen_convict.specs.Convictions.{AreShort, shown_in}
use Rattle.gen_local.specs.Report.{LocalReport}
use Rattle.gen_audit.specs.Bundle.{Bundle, IsBundle}
use Rattle.gen_audit.specs.BundleParts.{IsExhibit}
use Rattle.gen_audit.specs.Telling.{AreReports}
use Rattle.gen_audit.proofs.Answering.{headline_holds}
use Rattle.gen_audit.proofs.audits.judge_reports.Goals as goal

pub find_evidence-requires : goal.find_evidence-requires
find_evidence-requires c = λ r inside. c.requires.header r inside ∙ sym c.header.ensures.value

short_in : (b : Bundle) (reports : List LocalReport) → IsBundle b → AreReports b reports → AreShort (shown_in reports)
short_in b reports is are = subst AreShort (sym are.exhibits) (λ x inside. (All-contains (IsExhibit b.header.network.generals) b.exhibits x is.exhibits.each inside).short)

pub returns-clause-headline : goal.returns-clause-headline
returns-clause-headline c = headline_holds c.args.bundle.now c.header.ensures.bundle c.in_ok-verdict.verdict c.in_ok-verdict.ensures

pub returns-clause-convictions : goal.returns-clause-convictions
returns-clause-convictions c = rw (← c.header.ensures.value, ← c.requires.exhibits) (c.in_ok-convictions.ensures.found (short_in c.args.bundle.now c.args.reports.now c.header.ensures.bundle c.requires))

pub returns-clause-held : goal.returns-clause-held
returns-clause-held c = rw (← c.header.ensures.value, ← c.requires.exhibits) (c.in_ok-convictions.ensures.held (short_in c.args.bundle.now c.args.reports.now c.header.ensures.bundle c.requires))

pub returns-clause-lawful : goal.returns-clause-lawful
returns-clause-lawful c = rw (← c.header.ensures.value) (c.in_ok-convictions.ensures.lawful (short_in c.args.bundle.now c.args.reports.now c.header.ensures.bundle c.requires))
