use Rattle.gen_tree.proofs.Heights.{length-parts}
use Rattle.gen_tree.proofs.signatures.Signature.height.Goals as goal

pub returns : goal.returns
returns c = rw (← c.self.view_is) (length-parts c.self.inside.height c.self.inside.pairs c.self.inside.siblings c.self.invariant.0 c.self.invariant.1)
