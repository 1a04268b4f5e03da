use Rattle.gen_node.proofs.Scenarios.{nodes_begin, nodes_decide, nodes_end, nodes_hear, nodes_log, nodes_send, nodes_start, nodes_take}
use Rattle.gen_node.proofs.laws.nodes_are_generals.Goals as goal

pub returns : goal.returns
returns c = record {
  start = nodes_start;
  begin = nodes_begin;
  send = nodes_send;
  hear = nodes_hear;
  take = nodes_take;
  end = nodes_end;
  log = nodes_log;
  decide = nodes_decide;
}
