use Rattle.std.proofs.Common.{◌∙◌, ap, arith, length}
use Rattle.gen_types.specs.Heights.{leaves_of}
use Rattle.gen_tree.proofs.Folding.{length-leaf_values}
use Rattle.gen_tree.proofs.key_trees.KeyTree.leaf_key.Goals as goal

pub siblings_of-requires-clause-count : goal.siblings_of-requires-clause-count
siblings_of-requires-clause-count c =
    let e = ap length (c.as_slice.ensures.value ∙ c.self.invariant) in
    omega (arith, e, length-leaf_values c.self.inside.seed c.self.inside.height (leaves_of c.self.inside.height))
