use Rattle.std.proofs.Common.{subst, sym}
use Rattle.std.proofs.lemmas.Result.{IfOk-weaker}
use Rattle.gen_net.specs.Header.{RunHeader}
use Rattle.gen_chain.specs.Store.{Serves}
use Rattle.gen_audit.proofs.Telling.{are_reports}
use Rattle.row_calls.proofs.again_stores.reports_by.Goals as goal

pub local_reports-requires : goal.local_reports-requires
local_reports-requires c = subst (λ (h : RunHeader). Serves h c.args.store.now) (sym c.header.ensures.value) c.requires

pub returns-clause-reports : goal.returns-clause-reports
returns-clause-reports c = IfOk-weaker c.local_reports.result _ _ (λ reports are. are_reports c.args.bundle.now reports.items (rw (c.header.ensures.value, c.exhibits.ensures) at are)) c.local_reports.ensures.reports

pub returns-clause-serves : goal.returns-clause-serves
returns-clause-serves c = subst (λ (h : RunHeader). Serves h c.local_reports.new.store) c.header.ensures.value c.local_reports.ensures.serves
