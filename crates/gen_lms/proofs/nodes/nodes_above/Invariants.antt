use Rattle.std.proofs.Common.{◌≡◌, ◌+◌, length}
use Rattle.gen_lms.specs.Loops.Nodes.{AreInner}
use Rattle.gen_lms.proofs.nodes.nodes_above.Given as goal

abbrev pub invariant-nodes : goal.invariant-nodes
invariant-nodes l = (length l.nodes.items + 1 ≡ l.done) × AreInner l.identifier l.leaves l.nodes.items
