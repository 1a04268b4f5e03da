use Rattle.std.proofs.Common.{◌∙◌, ap, length}
use Rattle.std.proofs.lemmas.Nat.{pow_pos}
use Rattle.gen_lms.specs.Heights.{leaves_of, levels_of}
use Rattle.gen_lms.specs.Rings.{TreeName}
use Rattle.gen_lms.proofs.Leading.{length-leaves_up_to}
use Rattle.gen_lms.proofs.Numbers.{few_leaves}
use Rattle.gen_lms.proofs.trees.KeyTree.of_leaves.Goals as goal

pub nodes_above-requires-clause-some : goal.nodes_above-requires-clause-some
nodes_above-requires-clause-some c =
    let tree : TreeName = record { identifier = c.args.identifier.now; seed = c.args.seed.now; height = c.args.height } in
    rw (ap length (c.as_slice.ensures.value ∙ c.requires) ∙ length-leaves_up_to tree (leaves_of tree.height)) (pow_pos (levels_of tree.height))

pub nodes_above-requires-clause-few : goal.nodes_above-requires-clause-few
nodes_above-requires-clause-few c =
    let tree : TreeName = record { identifier = c.args.identifier.now; seed = c.args.seed.now; height = c.args.height } in
    rw (ap length (c.as_slice.ensures.value ∙ c.requires) ∙ length-leaves_up_to tree (leaves_of tree.height)) (few_leaves tree.height)
