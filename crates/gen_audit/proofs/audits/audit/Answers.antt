use Rattle.gen_audit.proofs.Telling.{are_reports}
use Rattle.gen_audit.proofs.audits.audit.Goals as goal

pub judge_reports-requires : goal.judge_reports-requires
judge_reports-requires g c = rw c.as_slice.ensures.value (are_reports c.args.bundle.now c.in_ok-reports.reports.items (rw (c.header.ensures.value, c.exhibits.ensures) at c.in_ok-reports.ensures.reports))
