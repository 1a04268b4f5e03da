use Rattle.std.proofs.Common.{◌+◌, ℕ, [], false, map, slice_index_or, arith, sym, subst, ◌∙◌}
use Rattle.std.proofs.lemmas.List.{get_or-map, map-set}
use Rattle.gen_ots.specs.SideBySide.{signed_value}
use Rattle.gen_ots.proofs.Filled.{Fills, none_filled, one_filled}
use Rattle.gen_tree.specs.Claims.{claimed_value, Stands}
use Rattle.gen_tree.proofs.Answered.{none_answered, one_answered}
use Rattle.gen_tree.proofs.claims.verify_lanes.Goals as goal

pub digests-init : goal.digests-init
digests-init c = none_filled (λ (k : ℕ). slice_index_or (map claimed_value c.args.claims.now) k []) (signed_value c.signed-signed.result)

pub digests-preserved : goal.digests-preserved
digests-preserved c =
    let values = map claimed_value c.args.claims.now in
    let i = c.digests.lane in
    let here = c.signed.ensures
    ∙ sym (get_or-map claimed_value c.args.claims.now i c.index-claims-lane.result [] (omega (arith, c.told-claims))) in
    subst (λ xs. Fills (λ (k : ℕ). slice_index_or values k []) (i + 1) xs)
    (sym (map-set signed_value c.digests.signed i c.signed.result))
    (one_filled (λ (k : ℕ). slice_index_or values k []) i (map signed_value c.digests.signed) (signed_value c.signed.result) (omega arith) here c.digests.invariant)

pub lanes-init : goal.lanes-init
lanes-init c = none_answered Stands c.args.claims.now false

pub stands-requires : goal.stands-requires
stands-requires c =
    let j = c.lanes.lane in
    c.images_of_lanes-values.ensures j (omega arith)
    ∙ c.digests.invariant.1 j (omega arith) []
    ∙ get_or-map claimed_value c.args.claims.now j c.index-claims-lane-in-lanes.result [] (omega (arith, c.told-claims))

pub lanes-preserved : goal.lanes-preserved
lanes-preserved c =
    one_answered Stands c.args.claims.now c.lanes.lane _ _ c.lanes.answers (omega (arith, c.told-claims)) (omega arith)
    c.stands.ensures c.lanes.invariant

pub returns : goal.returns
returns c j below = λ other. c.lanes.invariant.1 j (omega arith) false other
