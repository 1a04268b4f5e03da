use Rattle.std.proofs.Common.{◌≡◌}
use Rattle.gen_node.specs.declared.stages.Stage.TheVariants.{Hearing}
use Rattle.gen_node.specs.Node.{header_at, heard_from}
use Rattle.gen_node.proofs.nodes.Node.end_round.Given as goal

abbrev pub invariant-hearing : goal.invariant-hearing
invariant-hearing l = record {
  stage : l.self.stage ≡ Hearing l.next;
  total : heard_from l.next l.self ≡ heard_from l.first l.fn.self;
  generals : (header_at l.self.recorder).network.generals ≡ l.next-end;
}
