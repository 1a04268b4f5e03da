use Rattle.gen_audit.proofs.Worlds.{world_is_supported, world_is_accepted, shown_are_logs}
use Rattle.gen_audit.proofs.laws.own_runs_are_accepted.Goals as goal

pub returns-clause-supported : goal.returns-clause-supported
returns-clause-supported c = world_is_supported

pub returns-clause-accepted : goal.returns-clause-accepted
returns-clause-accepted c = world_is_accepted

pub returns-clause-shown : goal.returns-clause-shown
returns-clause-shown c = shown_are_logs
