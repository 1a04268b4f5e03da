use Rattle.std.proofs.Common.{◌<◌, ◌↔◌, ℕ, map, slice_index_or, subst, sym, ◌∙◌, arith}
use Rattle.std.proofs.lemmas.List.{length-replicate, length-set}
use Rattle.sha_lanes.specs.declared.words.TheConstants.{LANES}
use Rattle.sha_lanes.proofs.LaneFacts.{each_more}
use Rattle.gen_tree.specs.Claims.{Stands}
use Rattle.gen_tree.specs.declared.claims.SignatureClaim.{SignatureClaim}
use Rattle.gen_chain.specs.Signings.{IsSigned, triple_of}
use Rattle.gen_chain.specs.declared.signings.Signing.{Signing}
use Rattle.gen_chain.specs.Store.{Triple}
use Rattle.gen_chain.proofs.SignedFour.{signed_at}
use Rattle.gen_chain.proofs.signings.claims_of.Goals as goal

pub claim-claims-requires : goal.claim-claims-requires
claim-claims-requires c =
    subst (λ (y : Signing). y.signer < c.args.header.now.network.generals) (sym c.index-signings-0.is)
    (c.requires.generals 0 (omega arith) c.index-signings-0.result)

pub claim-requires : goal.claim-requires
claim-requires c =
    subst (λ (y : Signing). y.signer < c.args.header.now.network.generals) (sym c.index-signings-place.is)
    (c.requires.generals c.places.place (omega arith) c.index-signings-place.result)

pub places-init : goal.places-init
places-init c = (length-replicate LANES c.claim-claims.result, λ j none d other. absurd (omega arith))

pub places-preserved : goal.places-preserved
places-preserved c =
    let i = c.places.place in
    let xs = c.args.signings.now in
    let h = c.args.header.now in
    let is = λ (k : ℕ) (x : SignatureClaim). (other : Triple) → Stands x ↔ IsSigned h (slice_index_or (map triple_of xs) k other) in (
      length-set c.places.claims i _ ∙ c.places.invariant.0,
      each_more is c.places.claims i _ (omega (arith, c.places.invariant.0))
          (λ other. signed_at h xs i c.index-signings-place.result other _ (omega arith) c.index-signings-place.is c.claim.ensures) c.places.invariant.1,
    )

pub returns-clause-width : goal.returns-clause-width
returns-clause-width c = c.places.invariant.0

pub returns-clause-claims : goal.returns-clause-claims
returns-clause-claims c = λ j below d other. c.places.invariant.1 j (omega arith) d other
