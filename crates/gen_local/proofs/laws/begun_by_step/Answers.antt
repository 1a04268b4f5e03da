use Rattle.gen_local.proofs.Whole.{begun_by_step, begun_by_none, begun_by_one_more, departs_at_first, whole_logs}
use Rattle.gen_local.proofs.laws.begun_by_step.Goals as goal

pub returns-clause-step : goal.returns-clause-step
returns-clause-step c = begun_by_step

pub returns-clause-none : goal.returns-clause-none
returns-clause-none c = begun_by_none

pub returns-clause-more : goal.returns-clause-more
returns-clause-more c = begun_by_one_more

pub returns-clause-departs : goal.returns-clause-departs
returns-clause-departs c = departs_at_first

pub returns-clause-whole : goal.returns-clause-whole
returns-clause-whole c = whole_logs
