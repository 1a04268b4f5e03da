use Rattle.gen_node.proofs.Existing.{nodes_exist}
use Rattle.gen_node.proofs.Runs.{nodes_decisions, nodes_logs, nodes_run}
use Rattle.gen_node.proofs.laws.nodes_make_the_run.Goals as goal

pub returns : goal.returns
returns c = record { exist = nodes_exist; run = nodes_run; logs = nodes_logs; decisions = nodes_decisions }
