use Rattle.std.proofs.Common.{◌≡◌, [], ◌∷◌, false, replicate, map, slice_index_or, ap, ◌∙◌, sym, subst, List, ℕ, arith}
use Rattle.std.proofs.lemmas.List.{get_or_default}
use Rattle.sha_lanes.specs.Hashers.{HoldsLane}
use Rattle.gen_ots.specs.OneTime.{image, bit_of}
use Rattle.gen_ots.specs.Signatures.{other_at, shown_at}
use Rattle.gen_ots.specs.SideBySide.{images_before}
use Rattle.gen_ots.specs.declared.side_by_side.SignedDigest.{SignedDigest}
use Rattle.gen_ots.proofs.Filled.{none_filled, one_filled}
use Rattle.gen_ots.proofs.SignedInLanes.{none_before, value_at, lane_halves, lane_more}
use Rattle.gen_ots.proofs.side_by_side.images_of_lanes.Goals as goal

pub bits-init : goal.bits-init
bits-init c j below =
    let none = none_before c.args.signed.now j (omega (arith, c.told-signed)) in
    subst (λ (m : List ℕ). HoldsLane j c.new-hashers.result (1 ∷ m)) (sym none) (c.new-hashers.ensures j below)

pub lanes-init : goal.lanes-init
lanes-init c = record {
  secrets = λ d. none_filled (λ (k : ℕ). shown_at (slice_index_or c.args.signed.now k d).signature.now c.bits.bit) (replicate 32 0);
  others = λ d. none_filled (λ (k : ℕ). other_at (slice_index_or c.args.signed.now k d).signature.now c.bits.bit) (replicate 32 0);
  ones = λ d. none_filled (λ (k : ℕ). bit_of (slice_index_or c.args.signed.now k d).digest c.bits.bit) false;
}

pub lanes-preserved : goal.lanes-preserved
lanes-preserved c =
    record {
      secrets = λ d. one_filled (λ (k : ℕ). shown_at (slice_index_or c.args.signed.now k d).signature.now c.bits.bit) c.lanes.j c.lanes.secrets _ (omega arith)
          (c.pair_at.ensures.secret ∙ ap (λ (p : List ℕ). shown_at p c.bits.bit) c.as_bytes.ensures.value ∙ ap (λ (x : SignedDigest). shown_at x.signature.now c.bits.bit) (get_or_default c.args.signed.now c.lanes.j _ d (omega (arith, c.told-signed))))
          (c.lanes.invariant.secrets d);
      others = λ d. one_filled (λ (k : ℕ). other_at (slice_index_or c.args.signed.now k d).signature.now c.bits.bit) c.lanes.j c.lanes.others _ (omega arith)
          (c.pair_at.ensures.image ∙ ap (λ (p : List ℕ). other_at p c.bits.bit) c.as_bytes.ensures.value ∙ ap (λ (x : SignedDigest). other_at x.signature.now c.bits.bit) (get_or_default c.args.signed.now c.lanes.j _ d (omega (arith, c.told-signed))))
          (c.lanes.invariant.others d);
      ones = λ d. one_filled (λ (k : ℕ). bit_of (slice_index_or c.args.signed.now k d).digest c.bits.bit) c.lanes.j c.lanes.ones _ (omega arith)
          (c.is_one.ensures ∙ ap (λ (x : SignedDigest). bit_of x.digest c.bits.bit) (get_or_default c.args.signed.now c.lanes.j _ d (omega (arith, c.told-signed))))
          (c.lanes.invariant.ones d);
    }

pub bits-preserved : goal.bits-preserved
bits-preserved c j below =
    let n = c.bits.bit in
    let xs = c.args.signed.now in
    let both = λ (d : SignedDigest).
    let x = slice_index_or xs j d in
    lane_halves x.signature.now x.digest n _ _ _ _ _ ((c.lanes.invariant.ones d).1 j (omega arith) false)
    (c.images_in_lanes-images.ensures j below ∙ ap image (c.to_words.ensures j below ∙ (c.lanes.invariant.secrets d).1 j (omega arith) []))
    (c.to_words-others.ensures j below ∙ (c.lanes.invariant.others d).1 j (omega arith) [])
    (c.chosen_in_lanes-zeroth.ensures j below) (c.chosen_in_lanes-first.ensures j below) in
    lane_more xs j n _ _ _ c.told-signed below both (c.update.ensures j below) (c.bits.invariant j below)

pub returns : goal.returns
returns c j below =
    let all : c.bits.bit ≡ 256 = omega arith in
    c.finalize.ensures j below (1 ∷ slice_index_or (map (images_before 256) c.args.signed.now) j []) (rw all at (c.bits.invariant j below))
    ∙ value_at c.args.signed.now j (omega (arith, c.told-signed))
