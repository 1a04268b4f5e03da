use Rattle.gen_convict.proofs.Followers.{one_statement, one_order, nowhere}
use Rattle.gen_convict.proofs.laws.followers_logs.Goals as goal

pub returns-clause-statement : goal.returns-clause-statement
returns-clause-statement c = one_statement

pub returns-clause-order : goal.returns-clause-order
returns-clause-order c = one_order

pub returns-clause-nowhere : goal.returns-clause-nowhere
returns-clause-nowhere c = nowhere
