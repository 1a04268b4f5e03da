use Rattle.std.proofs.Common.{append_assoc}
use Rattle.gen_file.specs.EqualRootsText.{equal_roots_line}
use Rattle.gen_file.proofs.equal_roots.push_pair.Goals as goal

pub returns : goal.returns
unfolding equal_roots_line
returns c = simp append_assoc (simp (c.get-first.ensures.value, c.get-second.ensures.value) at c.write.ensures.bytes)
