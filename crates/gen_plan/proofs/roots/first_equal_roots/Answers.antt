use Rattle.std.proofs.Common.{◌≡◌, ℕ, ◌<◌, None, Some, sym, ap, ◌∙◌, arith}
use Rattle.std.specs.List.{flat_map, range_with_len}
use Rattle.gen_net.specs.Network.{Network}
use Rattle.gen_plan.specs.EqualRoots.{pair_of, pairs_of, first_pair, equal_roots}
use Rattle.gen_plan.proofs.Pairs.{first_at, pair_first, pair_none, none_more}
use Rattle.gen_plan.proofs.roots.first_equal_roots.Goals as goal

pub returns-then-share_root : goal.returns-then-share_root
unfolding equal_roots
returns-then-share_root c =
    let h = c.args.header.now in
    let n = h.network.generals in
    let a = c.at-a.result in
    let pair : ℕ × ℕ = (a, c.at-b.result) in
    let generals : c.generals-generals.result ≡ n = c.generals-generals.ensures.value ∙ ap (λ (net : Network). net.generals) c.net.ensures.value in
    let row : c.loop-lesser.lesser < n = omega (arith, c.loop-lesser-test.true, generals) in
    let inside : c.loop-greater.greater < n = omega (arith, c.loop-greater-test.true, generals) in
    let first : first_pair (pairs_of h a) ≡ Some pair = first_at (pair_of h a) n c.loop-greater.greater pair inside c.loop-greater.invariant (pair_first h a c.loop-greater.greater c.at-b.result c.at-b.ensures c.if-share_root.ensures) in
    sym (first_at (pairs_of h) n c.loop-lesser.lesser pair row c.loop-lesser.invariant (ap (λ k. first_pair (pairs_of h k)) (sym c.at-a.ensures) ∙ first))

pub loop-greater-preserved : goal.loop-greater-preserved
loop-greater-preserved c = none_more (pair_of c.args.header.now c.at-a.result) c.loop-greater.greater c.at-b.result c.at-b.ensures c.loop-greater.invariant (pair_none c.args.header.now c.at-a.result c.at-b.result c.if-share_root.ensures)

pub loop-lesser-preserved : goal.loop-lesser-preserved
unfolding first_pair
loop-lesser-preserved c =
    let h = c.args.header.now in
    let generals : c.generals-generals.result ≡ h.network.generals = c.generals-generals.ensures.value ∙ ap (λ (net : Network). net.generals) c.net.ensures.value in
    let all : c.loop-greater.greater ≡ h.network.generals = omega (arith, c.loop-greater-test.false, generals) in
    let none : first_pair (pairs_of h c.at-a.result) ≡ None = ap first_pair (ap (λ n. flat_map (pair_of h c.at-a.result) (range_with_len 0 n)) (sym all) ∙ c.loop-greater.invariant) in
    none_more (pairs_of h) c.loop-lesser.lesser c.at-a.result c.at-a.ensures c.loop-lesser.invariant none

pub returns : goal.returns
unfolding equal_roots first_pair
returns c =
    let h = c.args.header.now in
    let generals : c.generals-generals.result ≡ h.network.generals = c.generals-generals.ensures.value ∙ ap (λ (net : Network). net.generals) c.net.ensures.value in
    let all : c.loop-lesser.lesser ≡ h.network.generals = omega (arith, c.loop-lesser-test.false, generals) in
    sym (ap first_pair (ap (λ n. flat_map (pairs_of h) (range_with_len 0 n)) (sym all) ∙ c.loop-lesser.invariant))
