use Rattle.gen_core.proofs.KeptLogs.{has_log, one_log}
use Rattle.gen_core.proofs.laws.logs_are_kept.Goals as goal

pub returns-clause-some : goal.returns-clause-some
returns-clause-some c = has_log

pub returns-clause-one : goal.returns-clause-one
returns-clause-one c = one_log
