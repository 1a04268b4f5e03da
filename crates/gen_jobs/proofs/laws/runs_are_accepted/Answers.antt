use Rattle.gen_jobs.proofs.Accepted.{runs_are_accepted, runs_are_accepted_by, runs_are_read}
use Rattle.gen_jobs.proofs.laws.runs_are_accepted.Goals as goal

pub returns-clause-read : goal.returns-clause-read
returns-clause-read c = runs_are_read

pub returns-clause-accepted : goal.returns-clause-accepted
returns-clause-accepted c = runs_are_accepted

pub returns-clause-accepted_by : goal.returns-clause-accepted_by
returns-clause-accepted_by c = runs_are_accepted_by
