use Rattle.gen_named.proofs.OtherNames.{three_is_network, premises_met, names_differ}
use Rattle.gen_named.proofs.laws.names_may_differ.Goals as goal

pub returns-clause-network : goal.returns-clause-network
returns-clause-network c = three_is_network

pub returns-clause-premises : goal.returns-clause-premises
returns-clause-premises c = premises_met

pub returns-clause-names_differ : goal.returns-clause-names_differ
returns-clause-names_differ c = names_differ
