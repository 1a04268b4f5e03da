use Rattle.gen_jobs.proofs.AcceptedCampaigns.{campaigns_are_accepted, campaigns_are_accepted_by, campaigns_are_read}
use Rattle.gen_jobs.proofs.laws.campaigns_are_accepted.Goals as goal

pub returns-clause-read : goal.returns-clause-read
returns-clause-read c = campaigns_are_read

pub returns-clause-accepted : goal.returns-clause-accepted
returns-clause-accepted c = campaigns_are_accepted

pub returns-clause-accepted_by : goal.returns-clause-accepted_by
returns-clause-accepted_by c = campaigns_are_accepted_by
