use Rattle.std.proofs.Common.{◌≡◌, ℕ, List, length, Ok, refl, sym}
use Rattle.std.specs.Prelude.{nat_le}
use Rattle.std.proofs.lemmas.List.{nil_from_length}
use Rattle.std.proofs.lemmas.Result.{err_from_is_err_and}
use Rattle.gen_types.specs.Reading.{check}
use Rattle.gen_audit.specs.declared.bundle_fault.BundleFault.TheVariants as faults
use Rattle.gen_audit.specs.Behind.{check_behind}
use Rattle.gen_audit.specs.BundleMaking.{walk_check, walks_check, no_ends}
use Rattle.gen_audit.specs.BundleParts.{most_walks, ends_of}
use Rattle.gen_audit.proofs.BundleBehind.{check_goes_on, check_ends, check_is_done}
use Rattle.gen_audit.proofs.bundle_rules.check_all_walks.Goals as goal

behind_count : (n : ℕ) (walks : List (List ℕ)) → check (nat_le (length walks) most_walks) faults.WalkCount ≡ Ok tt → walks_check n walks ≡ check_behind (walk_check n) ends_of no_ends walks
unfolding walks_check
behind_count n walks few = rw few refl

pub returns-in_err-check_walk : goal.returns-in_err-check_walk
returns-in_err-check_walk c =
    let p = err_from_is_err_and c.from_residual-in_err-check_walk.result c.from_residual-in_err-check_walk.ensures.1 in
    rw (p.1, p.2, behind_count c.args.n c.args.walks.now (sym c.in_ok-check_rule.ensures))
    (check_ends (walk_check c.args.n) ends_of c.loop-walk.before c.loop-walk.rest.now c.in-Some.walk.now c.in-Some.others.now c.in_err-check_walk.field-0.0 _ c.in-Some.ensures.cases.0 (rw c.generals.ensures at (sym c.in_err-check_walk.ensures)) c.loop-walk.invariant)

pub loop-walk-preserved : goal.loop-walk-preserved
loop-walk-preserved c = rw (c.ends_of-before.ensures, c.generals-in-Some.ensures) (check_goes_on (walk_check c.args.n) ends_of c.loop-walk.before c.loop-walk.rest.now c.in-Some.walk.now c.in-Some.others.now _ c.in-Some.ensures.cases.0 (rw c.generals.ensures at (sym c.in_ok-check_walk.ensures)) c.loop-walk.invariant)

pub returns : goal.returns
returns c =
    rw (behind_count c.args.n c.args.walks.now (sym c.in_ok-check_rule.ensures))
    (check_is_done (walk_check c.args.n) ends_of c.loop-walk.before c.loop-walk.rest.now _ (nil_from_length _ c.in_default.ensures.cases) c.loop-walk.invariant)
