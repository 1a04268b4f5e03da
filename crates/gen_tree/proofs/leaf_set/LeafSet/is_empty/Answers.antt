use Rattle.gen_tree.proofs.LeafBits.{told_empty}
use Rattle.gen_tree.proofs.leaf_set.LeafSet.is_empty.Goals as goal

pub returns : goal.returns
returns c = rw (← c.self.view_is) (told_empty c.self.inside.bits c.self.invariant)
