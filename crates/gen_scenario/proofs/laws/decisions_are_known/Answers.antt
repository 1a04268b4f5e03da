use Rattle.gen_scenario.proofs.DecisionsMade.{decisions_hold, plain_decisions, one_outcome}
use Rattle.gen_scenario.proofs.laws.decisions_are_known.Goals as goal

pub returns-clause-hold : goal.returns-clause-hold
returns-clause-hold c = decisions_hold

pub returns-clause-plain : goal.returns-clause-plain
returns-clause-plain c = plain_decisions

pub returns-clause-one : goal.returns-clause-one
returns-clause-one c = one_outcome
