use Rattle.gen_jobs.proofs.Accepted.{runs_are_judged, runs_are_judged_by}
use Rattle.gen_jobs.proofs.laws.runs_are_judged.Goals as goal

pub returns-clause-judged : goal.returns-clause-judged
returns-clause-judged c = runs_are_judged

pub returns-clause-judged_by : goal.returns-clause-judged_by
returns-clause-judged_by c = runs_are_judged_by
