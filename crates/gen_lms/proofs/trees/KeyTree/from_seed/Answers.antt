use Rattle.std.proofs.Common.{◌≡◌, ◌+◌, ◌++◌, ℕ, suc, List, [], ◌∷◌, sym, ap, ◌∙◌, arith}
use Rattle.gen_lms.specs.Rings.{TreeName, leaves_up_to}
use Rattle.gen_lms.proofs.Leading.{leaves-suc, leaves-zero}
use Rattle.gen_lms.proofs.trees.KeyTree.from_seed.Goals as goal

pub leaves-init : goal.leaves-init
leaves-init c =
    let tree : TreeName = record { identifier = c.args.identifier.now; seed = c.args.seed.now; height = c.args.height } in
    c.in_ok-leaves.ensures.items ∙ sym (leaves-zero tree)

pub leaves-preserved : goal.leaves-preserved
leaves-preserved c =
    let tree : TreeName = record { identifier = c.args.identifier.now; seed = c.args.seed.now; height = c.args.height } in
    let n = c.leaves.number in
    let next : suc n ≡ n + 1 = omega arith in
    c.in_ok-extend_from_slice.ensures.items
    ∙ ap (λ (x : List (List ℕ)). x ++ c.leaf_of-leaf.result ∷ []) c.leaves.invariant
    ∙ ap (λ (v : List ℕ). leaves_up_to tree n ++ v ∷ []) c.leaf_of-leaf.ensures
    ∙ sym (leaves-suc tree n) ∙ ap (leaves_up_to tree) next
