use Rattle.std.proofs.Common.{◌∙◌, ap, length}
use Rattle.gen_lms.specs.Heights.{leaves_of}
use Rattle.gen_lms.specs.Rings.{TreeName}
use Rattle.gen_lms.proofs.Leading.{length-leaves_up_to}
use Rattle.gen_lms.proofs.trees.KeyTree.leaf_key.Goals as goal

pub path_of-path-requires-clause-count : goal.path_of-path-requires-clause-count
path_of-path-requires-clause-count c =
    let tree : TreeName = record { identifier = c.self.inside.identifier; seed = c.self.inside.seed; height = c.self.inside.height } in
    ap length (c.as_slice.ensures.value ∙ c.self.invariant.0) ∙ length-leaves_up_to tree (leaves_of tree.height)
