use Rattle.gen_audit.proofs.LocalFinds.{reports_find_local}
use Rattle.gen_audit.proofs.Telling.{reports_tell_logs}
use Rattle.gen_audit.proofs.laws.reports_tell_logs.Goals as goal

pub returns-clause-tell : goal.returns-clause-tell
returns-clause-tell c = reports_tell_logs

pub returns-clause-find : goal.returns-clause-find
returns-clause-find c = reports_find_local
