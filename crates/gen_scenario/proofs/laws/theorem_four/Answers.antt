use Rattle.gen_scenario.proofs.Agree.{agreement, validity, each_decides, decide_alike, obey_commander, any_choice, each_is_choice}
use Rattle.gen_scenario.proofs.laws.theorem_four.Goals as goal

pub returns-clause-agreement : goal.returns-clause-agreement
returns-clause-agreement c = agreement

pub returns-clause-validity : goal.returns-clause-validity
returns-clause-validity c = validity

pub returns-clause-each_decides : goal.returns-clause-each_decides
returns-clause-each_decides c = each_decides

pub returns-clause-decide_alike : goal.returns-clause-decide_alike
returns-clause-decide_alike c = decide_alike

pub returns-clause-obey_commander : goal.returns-clause-obey_commander
returns-clause-obey_commander c = obey_commander

pub returns-clause-any_choice : goal.returns-clause-any_choice
returns-clause-any_choice c = any_choice

pub returns-clause-each_is_choice : goal.returns-clause-each_is_choice
returns-clause-each_is_choice c = each_is_choice
