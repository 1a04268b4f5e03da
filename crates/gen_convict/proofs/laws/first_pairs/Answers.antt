use Rattle.gen_convict.proofs.FirstOnes.{first_of_subject, earliest_subject, first_command, one_of_each, has_two_texts, one_pair_of_texts}
use Rattle.gen_convict.proofs.laws.first_pairs.Goals as goal

pub returns-clause-subject : goal.returns-clause-subject
returns-clause-subject c = first_of_subject

pub returns-clause-earliest : goal.returns-clause-earliest
returns-clause-earliest c = earliest_subject

pub returns-clause-command : goal.returns-clause-command
returns-clause-command c = first_command

pub returns-clause-each : goal.returns-clause-each
returns-clause-each c = one_of_each

pub returns-clause-found : goal.returns-clause-found
returns-clause-found c = has_two_texts

pub returns-clause-one : goal.returns-clause-one
returns-clause-one c = one_pair_of_texts
