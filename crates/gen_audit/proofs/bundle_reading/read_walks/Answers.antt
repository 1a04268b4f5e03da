use Rattle.std.proofs.Common.{◌≡◌, ℕ, List, Ok, refl}
use Rattle.std.specs.Prelude.{nat_le}
use Rattle.std.proofs.lemmas.Result.{err_from_is_err_and}
use Rattle.gen_types.specs.Reading.{check}
use Rattle.gen_types.specs.Bytes.{byte_at}
use Rattle.gen_audit.specs.declared.bundle_fault.BundleFault.TheVariants as faults
use Rattle.gen_audit.specs.Behind.{many_behind}
use Rattle.gen_audit.specs.BundleMaking.{no_ends}
use Rattle.gen_audit.specs.BundleParts.{most_walks, ends_of}
use Rattle.gen_audit.specs.BundleReading.{walk_at, walks_at}
use Rattle.gen_audit.proofs.BundleBehind.{behind_goes_on, behind_ends, behind_is_done}
use Rattle.gen_audit.proofs.bundle_reading.read_walks.Goals as goal

behind_count : (n : ℕ) (bytes : List ℕ) (x : ℕ × List ℕ) → byte_at faults.Truncated bytes ≡ Ok x → check (nat_le x.0 most_walks) faults.WalkCount ≡ Ok tt → walks_at n bytes ≡ many_behind (walk_at n) ends_of no_ends x.0 x.1
unfolding walks_at
behind_count n bytes x h k = rw (h, k) refl

pub returns-in_err-walk : goal.returns-in_err-walk
returns-in_err-walk c =
    let p = err_from_is_err_and c.from_residual-in_err-walk.result c.from_residual-in_err-walk.ensures.1 in
    rw (p.1, p.2, behind_count c.args.n c.args.bytes.now (c.in_ok-count.count, c.in_ok-count.rest.now) c.in_ok-count.ensures.exact (rw c.from.ensures at c.in_ok-check.ensures.exact))
    (behind_ends (walk_at c.args.n) ends_of c.in_err-walk.field-0.0 c.loop.walks c.loop.before c.in_ok-count.count c.loop.counter c.loop.rest.now _ c.loop-test.true c.in_err-walk.ensures c.loop.invariant)

pub loop-preserved : goal.loop-preserved
loop-preserved c =
    rw (c.in_ok-push.ensures.ok, c.ends_of-before.ensures, c.generals.ensures) (behind_goes_on (walk_at c.args.n) ends_of c.loop.walks c.loop.before c.in_ok-count.count c.loop.counter c.loop.rest.now c.in_ok-walk.walk c.in_ok-walk.after.now _ c.loop-test.true c.in_ok-walk.ensures c.loop.invariant)

pub returns : goal.returns
returns c =
    rw (behind_count c.args.n c.args.bytes.now (c.in_ok-count.count, c.in_ok-count.rest.now) c.in_ok-count.ensures.exact (rw c.from.ensures at c.in_ok-check.ensures.exact))
    (behind_is_done (walk_at c.args.n) ends_of c.loop.walks c.loop.before c.in_ok-count.count c.loop.counter c.loop.rest.now _ c.loop-test.false c.loop.invariant)
