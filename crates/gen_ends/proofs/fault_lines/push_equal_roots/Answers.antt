use Rattle.std.proofs.Common.{append_assoc}
use Rattle.gen_ends.specs.FaultLines.{equal_roots_fault_line}
use Rattle.gen_ends.proofs.fault_lines.push_equal_roots.Goals as goal

pub returns : goal.returns
unfolding equal_roots_fault_line
returns c = simp append_assoc c.write.ensures.bytes
