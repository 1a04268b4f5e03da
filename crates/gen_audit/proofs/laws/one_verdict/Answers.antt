use Rattle.gen_audit.proofs.Answering.{one_verdict}
use Rattle.gen_audit.proofs.Deciders.{verdict_exists}
use Rattle.gen_audit.proofs.Judging.{one_judgement}
use Rattle.gen_audit.proofs.laws.one_verdict.Goals as goal

pub returns-clause-one : goal.returns-clause-one
returns-clause-one c = one_verdict

pub returns-clause-exists : goal.returns-clause-exists
returns-clause-exists c = verdict_exists

pub returns-clause-judgement : goal.returns-clause-judgement
returns-clause-judgement c = one_judgement
