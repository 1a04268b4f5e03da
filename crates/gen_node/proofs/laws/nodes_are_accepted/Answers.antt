use Rattle.gen_node.proofs.Accepted.{nodes_are_accepted}
use Rattle.gen_node.proofs.laws.nodes_are_accepted.Goals as goal

pub returns : goal.returns
returns c = nodes_are_accepted
