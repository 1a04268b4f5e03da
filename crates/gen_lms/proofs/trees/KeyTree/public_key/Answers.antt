use Rattle.std.proofs.Common.{◌≡◌, ◌≤◌, ◌+◌, ◌*◌, ◌^◌, ◌∙◌, List, ℕ, ap, arith, length}
use Rattle.gen_lms.specs.Heights.{leaves_of, levels_of}
use Rattle.gen_lms.specs.Rings.{TreeName, tree_leaves, tree_root}
use Rattle.gen_lms.specs.Loops.Nodes.{AreInner}
use Rattle.gen_lms.specs.declared.public_keys.PublicKey.{PublicKey}
use Rattle.gen_lms.proofs.Leading.{length-leaves_up_to}
use Rattle.gen_lms.proofs.trees.KeyTree.public_key.Goals as goal

pub returns : goal.returns
unfolding tree_root
returns c =
    let tree : TreeName = record { identifier = c.self.inside.identifier; seed = c.self.inside.seed; height = c.self.inside.height } in
    let levels = levels_of tree.height in
    let leaves : c.as_slice.result.now ≡ tree_leaves tree = c.as_slice.ensures.value ∙ c.self.invariant.0 in
    let own : length (tree_leaves tree) ≡ leaves_of tree.height = length-leaves_up_to tree (leaves_of tree.height) in
    let count : length c.as_slice.result.now ≡ leaves_of tree.height = ap length leaves ∙ own in
    let are : AreInner tree.identifier c.as_slice.result.now c.as_slice-2.result.now = rw (c.as_slice.ensures.value, c.as_slice-2.ensures.value) c.self.invariant.2 in
    let first : length c.as_slice.result.now ≤ 1 * 2 ^ levels = rw count (omega arith) in
    let last : (1 + 1) * 2 ^ levels ≤ 2 * length c.as_slice.result.now = rw count (omega arith) in
    let root : c.node_of-root.result ≡ tree_root tree = rw (leaves, own) at (c.node_of-root.ensures tree.identifier levels are first last) in
    rw (← c.self.view_is) (ap (λ (r : List ℕ). let key : PublicKey = record { height = tree.height; identifier = tree.identifier; root = r } in key) root)
