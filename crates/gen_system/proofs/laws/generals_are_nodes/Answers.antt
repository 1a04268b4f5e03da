use Rattle.gen_system.proofs.Turning.{general_again, node_again}
use Rattle.gen_system.proofs.laws.generals_are_nodes.Goals as goal

pub returns-clause-general : goal.returns-clause-general
returns-clause-general c = λ s run g below. general_again s.proposer s.header.network.generals run g below

pub returns-clause-node : goal.returns-clause-node
returns-clause-node c = λ s run v below. node_again s.proposer s.header.network.generals run v below
