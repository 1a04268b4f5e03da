use Rattle.std.proofs.Common.{◌≡◌, ◌++◌, sym, ap, ◌∙◌, arith, append-nil}
use Rattle.std.specs.List.{flat_map, range_with_len}
use Rattle.gen_net.specs.Network.{Network}
use Rattle.gen_plan.specs.EqualRoots.{pair_of, pairs_of, equal_roots}
use Rattle.gen_plan.proofs.Pairs.{one_more, pair_taken, pair_passed}
use Rattle.gen_plan.proofs.roots.equal_roots.Goals as goal
use Rattle.gen_plan.proofs.roots.equal_roots.Goals.{then-share_root+in_ok-push, else-share_root}

pub loop-greater-init : goal.loop-greater-init
loop-greater-init c = sym (append-nil c.loop-lesser.pairs.items)

pub loop-greater-preserved : goal.loop-greater-preserved
loop-greater-preserved c =
    let h = c.args.header.now in
    let before = c.loop-lesser.pairs.items in
    elim c.if-share_root.branch [
      | then-share_root+in_ok-push w ↦ rw (w.pairs-is, w.in_ok-push.ensures.items) (pair_taken h c.at-a.result c.loop-greater.greater c.at-b.result before c.loop-greater.pairs.items c.at-b.ensures c.loop-greater.invariant w.if-share_root.ensures)
      | else-share_root w ↦ rw w.pairs-is (pair_passed h c.at-a.result c.loop-greater.greater c.at-b.result before c.loop-greater.pairs.items c.at-b.ensures c.loop-greater.invariant w.if-share_root.ensures)
    ]

pub loop-lesser-preserved : goal.loop-lesser-preserved
loop-lesser-preserved c =
    let h = c.args.header.now in
    let f = pairs_of h in
    let generals : c.generals-generals.result ≡ h.network.generals = c.generals-generals.ensures.value ∙ ap (λ (net : Network). net.generals) c.net.ensures.value in
    let all : c.loop-greater.greater ≡ h.network.generals = omega (arith, c.loop-greater-test.false, generals) in
    c.loop-greater.invariant ∙ ap (λ n. c.loop-lesser.pairs.items ++ flat_map (pair_of h c.at-a.result) (range_with_len 0 n)) all
    ∙ ap (λ xs. xs ++ f c.at-a.result) c.loop-lesser.invariant
    ∙ ap (λ k. flat_map f (range_with_len 0 c.loop-lesser.lesser) ++ f k) c.at-a.ensures ∙ sym (one_more f c.loop-lesser.lesser)

pub returns : goal.returns
unfolding equal_roots
returns c =
    let h = c.args.header.now in
    let generals : c.generals-generals.result ≡ h.network.generals = c.generals-generals.ensures.value ∙ ap (λ (net : Network). net.generals) c.net.ensures.value in
    let all : c.loop-lesser.lesser ≡ h.network.generals = omega (arith, c.loop-lesser-test.false, generals) in
    c.loop-lesser.invariant ∙ ap (λ n. flat_map (pairs_of h) (range_with_len 0 n)) all
