use Rattle.std.proofs.Common.{◌<◌, false, length, map, arith}
use Rattle.std.proofs.lemmas.List.{length-map}
use Rattle.gen_tree.proofs.Answered.{none_answered, one_answered}
use Rattle.gen_chain.specs.Signings.{IsSigned, triple_of}
use Rattle.gen_chain.proofs.SignedFour.{signed_at}
use Rattle.gen_chain.proofs.SignedClaims.{claims_answer}
use Rattle.gen_chain.proofs.signings.have_signed.Goals as goal

pub places-init : goal.places-init
places-init c = none_answered (IsSigned c.args.header.now) (map triple_of c.args.signings.now) false

pub places-preserved : goal.places-preserved
places-preserved c =
    let i = c.places.place in
    let xs = c.args.signings.now in
    let h = c.args.header.now in
    let x = c.index-signings-place.result in
    let inside : i < length (map triple_of xs) = omega (arith, length-map xs triple_of) in
    one_answered (IsSigned h) (map triple_of xs) i (triple_of x) c.has_signed.result c.places.answers inside (omega arith)
    (signed_at h xs i x (triple_of x) _ (omega arith) c.index-signings-place.is c.has_signed.ensures) c.places.invariant

pub returns-then-is_empty : goal.returns-then-is_empty
returns-then-is_empty c j below = λ other. c.places.invariant.1 j (omega arith) false other

pub returns : goal.returns
returns c j below = λ other.
    claims_answer c.args.header.now c.args.signings.now c.claims_of-claims.result c.verify_claims.result _ c.claims_of-claims.ensures.width c.requires
    c.claims_of-claims.ensures.claims c.verify_claims.ensures j below other
