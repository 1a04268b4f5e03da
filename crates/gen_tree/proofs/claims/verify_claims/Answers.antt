use Rattle.std.proofs.Common.{◌↔◌, ℕ, IsTrue, false, slice_index_or, subst, ◌∙◌, arith}
use Rattle.std.proofs.lemmas.List.{get_or_default}
use Rattle.gen_ots.proofs.Filled.{none_filled, one_filled}
use Rattle.gen_tree.specs.Claims.{Stands}
use Rattle.gen_tree.proofs.Answered.{none_answered, one_answered}
use Rattle.gen_tree.proofs.claims.verify_claims.Goals as goal

pub turns-init : goal.turns-init
turns-init c = none_answered Stands c.args.claims.now false

pub turns-preserved : goal.turns-preserved
turns-preserved c =
    one_answered Stands c.args.claims.now c.turns.place c.index-claims-place.result c.verify.result c.turns.answers (omega arith) (omega arith)
    (subst (λ x. IsTrue c.verify.result ↔ Stands x) c.index-claims-place.is c.verify.ensures) c.turns.invariant

pub returns-then-claims : goal.returns-then-claims
returns-then-claims c j below = λ other. c.turns.invariant.1 j (omega arith) false other

pub claims-init : goal.claims-init
claims-init c = λ d. none_filled (λ (k : ℕ). slice_index_or c.args.claims.now k d) _

pub claims-preserved : goal.claims-preserved
claims-preserved c = λ d.
    one_filled (λ (k : ℕ). slice_index_or c.args.claims.now k d) c.claims.place c.claims.lanes _ (omega arith)
    (c.index-claims-place-in-claims.is ∙ get_or_default c.args.claims.now c.claims.place _ d (omega arith)) (c.claims.invariant d)

pub returns : goal.returns
returns c j below = λ other.
    subst (λ x. IsTrue (slice_index_or c.verify_lanes.result j false) ↔ Stands x)
    ((c.claims.invariant other).1 j (omega arith) other) (c.verify_lanes.ensures j (omega arith) other)
