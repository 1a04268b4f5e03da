use Rattle.std.proofs.Common.{◌≡◌, ◌+◌, ◌-◌, ◌*◌, drop, sym, ap, ◌∙◌, arith, add-one}
use Rattle.std.proofs.lemmas.List.{drop_at}
use Rattle.gen_types.specs.Heights.{levels_of}
use Rattle.gen_ots.specs.Sizes.{hash_length, ots_length}
use Rattle.gen_tree.proofs.Folding.{folded-zero, folded-suc}
use Rattle.gen_tree.proofs.signatures.root_above.Goals as goal

pub levels-init : goal.levels-init
levels-init c = sym (folded-zero _ c.args.leaf c.parts.result.1.now)

pub levels-preserved : goal.levels-preserved
levels-preserved c =
    let n = c.levels.level in
    let w : hash_length * n + hash_length - hash_length * n ≡ hash_length = omega arith in
    let step = rw (c.from-at.ensures, w, c.levels.invariant) at c.parent_of-node.ensures in
    rw (add-one, folded-suc) step

pub returns : goal.returns
returns c =
    let n : c.levels.level ≡ levels_of c.args.height = omega arith in
    let back : drop ots_length c.args.signature.now ≡ c.parts.result.1.now
    = ap (drop ots_length) (sym c.parts.ensures.whole) ∙ drop_at c.parts.result.0.now c.parts.result.1.now ots_length c.parts.ensures.one_time in
    rw back (rw n at c.levels.invariant)
