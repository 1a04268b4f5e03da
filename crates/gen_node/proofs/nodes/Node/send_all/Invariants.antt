use Rattle.std.proofs.Common.{◌≡◌}
use Rattle.gen_node.specs.declared.stages.Stage.TheVariants.{Sending}
use Rattle.gen_node.specs.Node.{header_at, sent_from}
use Rattle.gen_node.proofs.nodes.Node.send_all.Given as goal

abbrev pub invariant-sending : goal.invariant-sending
invariant-sending l = record {
  stage : l.self.stage ≡ Sending l.next;
  total : sent_from l.next l.self ≡ sent_from l.first l.fn.self;
  generals : (header_at l.self.recorder).network.generals ≡ l.next-end;
}
