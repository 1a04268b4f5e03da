use Rattle.std.proofs.Common.{◌≡◌, ◌∙◌, ℕ, Bool, List, Ok, refl, ap}
use Rattle.std.specs.Prelude.{nat_lt}
use Rattle.std.proofs.lemmas.Result.{err_from_is_err_and}
use Rattle.gen_types.specs.declared.reading.ReadError.{ReadError}
use Rattle.gen_types.specs.declared.reading.ReadError.TheVariants as errors
use Rattle.gen_types.specs.Reading.{◌>>=◌, check, Fails}
use Rattle.gen_types.specs.Bytes.{byte_at, many_at}
use Rattle.gen_types.proofs.ManyFields.{goes_on, ends, is_done}
use Rattle.gen_audit.specs.declared.bundle_fault.BundleFault.{BundleFault}
use Rattle.gen_audit.specs.declared.bundle_fault.BundleFault.TheVariants as faults
use Rattle.gen_audit.specs.BundleMaking.{is_walk_length, may_follow}
use Rattle.gen_audit.specs.BundleReading.{general_at, walk_at}
use Rattle.gen_audit.proofs.bundle_reading.read_walk.Goals as goal

-- ---- one general

not_read : (n : ℕ) (bytes : List ℕ) (e : ReadError BundleFault) → Fails e (byte_at faults.Truncated bytes) → Fails e (general_at n bytes)
unfolding general_at
not_read n bytes errors.Memory h = tt
not_read n bytes (errors.Fault f) h = rw h refl

not_known : (n : ℕ) (bytes : List ℕ) (x : ℕ × List ℕ) (e : ReadError BundleFault) → byte_at faults.Truncated bytes ≡ Ok x → Fails e (check (nat_lt x.0 n) faults.BadWalk) → Fails e (general_at n bytes)
unfolding general_at
not_known n bytes x errors.Memory h k = tt
not_known n bytes x (errors.Fault f) h k = rw (h, k) refl

is_general : (n : ℕ) (bytes : List ℕ) (x : ℕ × List ℕ) → byte_at faults.Truncated bytes ≡ Ok x → check (nat_lt x.0 n) faults.BadWalk ≡ Ok tt → general_at n bytes ≡ Ok x
unfolding general_at
is_general n bytes x h k = rw (h, k) refl

-- ---- the walk, whose number of generals is x.0

module _ (n : ℕ) (before : ℕ × ℕ) (bytes : List ℕ) (x : ℕ × List ℕ) (long : Bool) (counted : byte_at faults.Truncated bytes ≡ Ok x) (tested : long ≡ is_walk_length x.0) (passed : check long faults.WalkCount ≡ Ok tt) where
  behind_count : walk_at n before bytes ≡ (many_at (general_at n) x.0 x.1 >>= λ walk. check (may_follow before walk.0) faults.BadWalk >>= λ ordered. Ok walk)
  unfolding walk_at
  behind_count = rw (counted, rw tested at passed) refl

  no_generals : (e : ReadError BundleFault) → Fails e (many_at (general_at n) x.0 x.1) → Fails e (walk_at n before bytes)
  no_generals errors.Memory h = tt
  no_generals (errors.Fault f) h = rw (behind_count, h) refl

  no_order : (walk : List ℕ × List ℕ) (follows : Bool) (e : ReadError BundleFault) → many_at (general_at n) x.0 x.1 ≡ Ok walk → follows ≡ may_follow before walk.0 → Fails e (check follows faults.BadWalk) → Fails e (walk_at n before bytes)
  no_order walk follows errors.Memory h f k = tt
  no_order walk follows (errors.Fault fault) h f k = rw (behind_count, h, rw f at k) refl

  is_walk : (walk : List ℕ × List ℕ) (follows : Bool) → many_at (general_at n) x.0 x.1 ≡ Ok walk → follows ≡ may_follow before walk.0 → check follows faults.BadWalk ≡ Ok tt → walk_at n before bytes ≡ Ok walk
  is_walk walk follows h f k = rw (behind_count, h, rw f at k) refl

pub returns-in_err-general : goal.returns-in_err-general
returns-in_err-general c =
    let p = err_from_is_err_and c.from_residual-in_err-general.result c.from_residual-in_err-general.ensures.1 in
    let failed = not_read c.args.n c.loop.rest.now c.in_err-general.field-0.0 c.in_err-general.ensures.exact in
    let none = ends (general_at c.args.n) c.in_err-general.field-0.0 c.loop.generals.items c.in_ok-count.count c.loop.counter c.loop.rest.now _ c.loop-test.true failed c.loop.invariant in
    rw (p.1, p.2) (no_generals c.args.n c.args.before c.args.bytes.now (c.in_ok-count.count, c.in_ok-count.rest.now) c.is_walk_length.result c.in_ok-count.ensures.exact (c.is_walk_length.ensures ∙ ap is_walk_length c.from.ensures) c.in_ok-check.ensures.exact c.in_err-general.field-0.0 none)

pub returns-in_err-check-2 : goal.returns-in_err-check-2
returns-in_err-check-2 c =
    let p = err_from_is_err_and c.from_residual-in_err-check-2.result c.from_residual-in_err-check-2.ensures.1 in
    let failed = not_known c.args.n c.loop.rest.now (c.in_ok-general.general, c.in_ok-general.after.now) c.in_err-check-2.field-0.0 c.in_ok-general.ensures.exact c.in_err-check-2.ensures.exact in
    let none = ends (general_at c.args.n) c.in_err-check-2.field-0.0 c.loop.generals.items c.in_ok-count.count c.loop.counter c.loop.rest.now _ c.loop-test.true failed c.loop.invariant in
    rw (p.1, p.2) (no_generals c.args.n c.args.before c.args.bytes.now (c.in_ok-count.count, c.in_ok-count.rest.now) c.is_walk_length.result c.in_ok-count.ensures.exact (c.is_walk_length.ensures ∙ ap is_walk_length c.from.ensures) c.in_ok-check.ensures.exact c.in_err-check-2.field-0.0 none)

pub loop-preserved : goal.loop-preserved
loop-preserved c =
    rw (c.in_ok-push.ensures.items, c.at.ensures) (goes_on (general_at c.args.n) c.loop.generals.items c.in_ok-count.count c.loop.counter c.loop.rest.now c.in_ok-general.general c.in_ok-general.after.now _ c.loop-test.true (is_general c.args.n c.loop.rest.now (c.in_ok-general.general, c.in_ok-general.after.now) c.in_ok-general.ensures.exact c.in_ok-check-2.ensures.exact) c.loop.invariant)

pub returns-in_err-check-3 : goal.returns-in_err-check-3
returns-in_err-check-3 c =
    let p = err_from_is_err_and c.from_residual-in_err-check-3.result c.from_residual-in_err-check-3.ensures.1 in
    let all = is_done (general_at c.args.n) c.loop.generals.items c.in_ok-count.count c.loop.counter c.loop.rest.now _ c.loop-test.false c.loop.invariant in
    rw (p.1, p.2) (no_order c.args.n c.args.before c.args.bytes.now (c.in_ok-count.count, c.in_ok-count.rest.now) c.is_walk_length.result c.in_ok-count.ensures.exact (c.is_walk_length.ensures ∙ ap is_walk_length c.from.ensures) c.in_ok-check.ensures.exact (c.loop.generals.items, c.loop.rest.now) c.may_follow.result c.in_err-check-3.field-0.0 all (rw c.deref.ensures.value at c.may_follow.ensures) c.in_err-check-3.ensures.exact)

pub returns : goal.returns
returns c =
    let all = is_done (general_at c.args.n) c.loop.generals.items c.in_ok-count.count c.loop.counter c.loop.rest.now _ c.loop-test.false c.loop.invariant in
    rw c.new.ensures (is_walk c.args.n c.args.before c.args.bytes.now (c.in_ok-count.count, c.in_ok-count.rest.now) c.is_walk_length.result c.in_ok-count.ensures.exact (c.is_walk_length.ensures ∙ ap is_walk_length c.from.ensures) c.in_ok-check.ensures.exact (c.loop.generals.items, c.loop.rest.now) c.may_follow.result all (rw c.deref.ensures.value at c.may_follow.ensures) c.in_ok-check-3.ensures.exact)
