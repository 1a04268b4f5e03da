use Rattle.gen_desk.proofs.FiledOnce.{reports_are}
use Rattle.gen_desk.proofs.closing.Filed.into_rows.Goals as goal

pub returns-clause-reports : goal.returns-clause-reports
returns-clause-reports c = λ p. rw c.into_rows.ensures.rows (reports_are c.self.inside.state c.into_rows.ensures.legal p)
