use Rattle.std.proofs.Common.{◌<◌, ap, arith, subst, sym}
use Rattle.std.proofs.lemmas.List.{nil_from_length}
use Rattle.gen_chain.specs.Chain.{IsSignedChain}
use Rattle.gen_chain.specs.Verifying.{EachHasSigned}
use Rattle.gen_chain.proofs.DistinctPaths.{next_fits, next_is_new}
use Rattle.gen_chain.proofs.SignedSoFar.{at_first, joined, goes_on, stops, at_last}
use Rattle.gen_chain.proofs.SignedFour.{four_apart, four_next, four_on, true_all, all_are_true}
use Rattle.gen_chain.proofs.verifying.chain_verifies.Goals as goal

pub fours-init : goal.fours-init
fours-init c =
    let first = at_first c.args.header.now c.chain.inside.order c.args.chain.now.signers in
    rw (c.new-path.ensures, c.as_slice-rest.ensures.value, ap (λ k. k.signers) c.chain.view_is) first

pub next_four-signings-requires-clause-distinct : goal.next_four-signings-requires-clause-distinct
next_four-signings-requires-clause-distinct c =
    let is = subst (IsSignedChain c.chain.inside.height) c.chain.view_is c.chain.invariant in
    four_apart c.fours.path c.fours.rest.now c.args.chain.now.signers is.distinct (joined _ _ _ _ _ c.fours.invariant)

pub returns-then-not-four_true : goal.returns-then-not-four_true
returns-then-not-four_true c = (
  λ t. absurd cc,
  λ all.
      let each = subst (λ v. EachHasSigned c.args.header.now v c.args.chain.now.signers) (sym (ap (λ k. k.order) c.chain.view_is)) all.1 in
      let four = four_next _ _ _ _ _ c.fours.invariant each in
      let t = c.four_true.ensures.1 (all_are_true _ _ _ _ _ c.fours.rest.now (omega arith) c.next_four-signings.ensures.value c.next_four-signings.ensures.width c.have_signed-answers.ensures four) in
      absurd cc,
)

pub fours-preserved : goal.fours-preserved
fours-preserved c =
    let four = true_all _ _ _ _ _ c.fours.rest.now (omega arith) c.next_four-signings.ensures.value c.next_four-signings.ensures.width c.have_signed-answers.ensures (c.four_true.ensures.0 c.if-not-four_true.false) in
    rw c.split_at.ensures.back (four_on _ _ _ _ _ c.fours.invariant _ c.next_four-signings.ensures.path four)

pub push_new-requires-clause-room : goal.push_new-requires-clause-room
push_new-requires-clause-room c =
    let is = subst (IsSignedChain c.chain.inside.height) c.chain.view_is c.chain.invariant in
    next_fits c.ones.path c.ones.rest.now c.in-Some.others.now c.args.chain.now.signers c.in-Some.signer.now is.few c.in-Some.ensures.cases.0 (joined _ _ _ _ _ c.ones.invariant)

pub push_new-requires-clause-new : goal.push_new-requires-clause-new
push_new-requires-clause-new c =
    let is = subst (IsSignedChain c.chain.inside.height) c.chain.view_is c.chain.invariant in
    next_is_new c.ones.path c.ones.rest.now c.in-Some.others.now c.args.chain.now.signers c.in-Some.signer.now is.distinct c.in-Some.ensures.cases.0 (joined _ _ _ _ _ c.ones.invariant)

pub returns-then-not-signed : goal.returns-then-not-signed
returns-then-not-signed c = (
  λ t. absurd cc,
  λ all.
      let each = subst (λ v. EachHasSigned c.args.header.now v c.args.chain.now.signers) (sym (ap (λ k. k.order) c.chain.view_is)) all.1 in
      absurd (stops _ _ _ _ _ _ _ _ c.in-Some.ensures.cases.0 c.push_new.ensures (λ h. let t = c.has_signed-signed.ensures.1 h in absurd cc) c.ones.invariant each),
)

pub ones-preserved : goal.ones-preserved
ones-preserved c = goes_on _ _ _ _ _ _ _ _ c.in-Some.ensures.cases.0 c.push_new.ensures (c.has_signed-signed.ensures.0 c.if-not-signed.false) c.ones.invariant

pub returns : goal.returns
returns c =
    let order = ap (λ k. k.order) c.chain.view_is in
    let each = at_last _ _ _ _ _ (nil_from_length _ c.in_default.ensures.cases) c.ones.invariant in
    let below : c.args.chain.now.order < c.args.header.now.network.orders = omega (arith, c.if-get-orders.false, c.get.ensures.value, c.orders.ensures.value, ap (λ n. n.orders) c.net.ensures.value, order) in
    (λ t. (below, subst (λ v. EachHasSigned c.args.header.now v c.args.chain.now.signers) order each), λ all. cc)
