use Rattle.gen_scenario.proofs.SplitCommander.{three_is_network, premises_met, both_accepted}
use Rattle.gen_scenario.proofs.laws.two_orders.Goals as goal

pub returns-clause-network : goal.returns-clause-network
returns-clause-network c = three_is_network

pub returns-clause-premises : goal.returns-clause-premises
returns-clause-premises c = premises_met

pub returns-clause-both_accepted : goal.returns-clause-both_accepted
returns-clause-both_accepted c = both_accepted
