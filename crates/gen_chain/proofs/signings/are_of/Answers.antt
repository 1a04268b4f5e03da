use Rattle.std.proofs.Common.{◌≡◌, ◌<◌, inl, inr, slice_index_or, ap, sym, subst, ◌∙◌, arith}
use Rattle.std.proofs.lemmas.List.{get_or_default}
use Rattle.gen_net.specs.Network.{Network}
use Rattle.gen_chain.specs.declared.signings.Signing.{Signing}
use Rattle.gen_chain.proofs.StoredInTurn.{before_or_at}
use Rattle.gen_chain.proofs.signings.are_of.Goals as goal

pub places-init : goal.places-init
places-init c = λ j none d. absurd (omega arith)

pub places-preserved : goal.places-preserved
places-preserved c = λ j below d. elim (before_or_at j c.places.place below) [
  | inl before ↦ c.places.invariant j before d
  | inr same ↦
      let x = c.index-signings-place.result in
      let xs = c.args.signings.now in
      let is : x ≡ slice_index_or xs j d = c.index-signings-place.is ∙ get_or_default xs c.places.place x d (omega arith) ∙ ap (λ i. slice_index_or xs i d) (sym same) in
      subst (λ (y : Signing). y.signer < c.args.header.now.network.generals) is (omega (arith, c.if-get-generals.false, c.get.ensures.value, c.generals.ensures.value, ap (λ (n : Network). n.generals) c.net.ensures.value))
]

pub returns : goal.returns
returns c = λ all j below d. c.places.invariant j (omega arith) d
