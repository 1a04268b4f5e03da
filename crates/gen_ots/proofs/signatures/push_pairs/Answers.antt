use Rattle.std.proofs.Common.{◌++◌, List, [], ℕ, slice_index_or, add-one, append_assoc, sym, ap, ◌∙◌, arith}
use Rattle.std.proofs.lemmas.List.{append-nil}
use Rattle.gen_ots.specs.Signatures.{pairs_up_to}
use Rattle.gen_ots.proofs.Pairs.{pairs-more, pairs-none}
use Rattle.gen_ots.proofs.signatures.push_pairs.Goals as goal

pub lanes-init : goal.lanes-init
lanes-init c =
    let items = c.args.bytes.now.items in (
      sym (ap (λ (x : List ℕ). items ++ x) (pairs-none c.args.shown.now c.args.images.now) ∙ append-nil items),
      omega arith,
      omega arith,
    )

pub lanes-preserved : goal.lanes-preserved
lanes-preserved c =
    let items = c.args.bytes.now.items in
    let j = c.lanes.j in
    let before = pairs_up_to j c.args.shown.now c.args.images.now in
    let pair = slice_index_or c.args.shown.now j [] ++ slice_index_or c.args.images.now j [] in (
      rw (add-one, pairs-more c.args.shown.now c.args.images.now j)
          (c.push_pair.ensures.items ∙ ap (λ (x : List ℕ). x ++ pair) c.lanes.invariant.0 ∙ append_assoc items before pair),
      omega (arith, c.push_pair.ensures.len, c.lanes.invariant.1),
      omega (arith, c.push_pair.ensures.capacity, c.lanes.invariant.2),
    )
