use Rattle.std.proofs.Common.{◌≡◌, ◌-◌, ℕ, List, [], Result, Ok, Err, refl, arith}
use Rattle.std.specs.Arc.{arc_slice_items}
use Rattle.std.specs.Prelude.{nat_le}
use Rattle.std.proofs.lemmas.Result.{err_from_is_err_and}
use Rattle.gen_types.specs.Reading.{check}
use Rattle.gen_types.specs.Bytes.{byte_at}
use Rattle.gen_types.proofs.ManyFields.{with_front}
use Rattle.gen_audit.specs.declared.bundle_fault.BundleFault.TheVariants as faults
use Rattle.gen_audit.specs.Behind.{many_behind}
use Rattle.gen_audit.specs.BundleMaking.{shown_general}
use Rattle.gen_audit.specs.BundleParts.{most_exhibits}
use Rattle.gen_audit.specs.BundleReading.{exhibit_at, exhibits_at}
use Rattle.gen_audit.proofs.BundleBehind.{behind_goes_on, behind_ends, behind_is_done}
use Rattle.gen_audit.proofs.InputEnds.{behind_byte}
use Rattle.gen_audit.proofs.bundle_reading.read_exhibits.Goals as goal

none_before : {A F : Type 0} (read : Result (List A × List ℕ) F) → with_front [] read ≡ read
none_before (Ok x) = refl
none_before (Err f) = refl

behind_count : (n : ℕ) (bytes : List ℕ) (x : ℕ × List ℕ) → byte_at faults.Truncated bytes ≡ Ok x → check (nat_le x.0 most_exhibits) faults.BadExhibit ≡ Ok tt → exhibits_at n bytes ≡ many_behind (exhibit_at n) shown_general 0 x.0 x.1
unfolding exhibits_at
behind_count n bytes x h k = rw (h, k) refl

pub loop-init : goal.loop-init
loop-init c = record {
  read = (let all : c.in_ok-count.count - 0 ≡ c.in_ok-count.count = omega arith in rw (c.new-exhibits.ensures.items, all) (none_before _));
  end = behind_byte (arc_slice_items c.args.input.now) c.args.bytes.now c.in_ok-count.rest.now c.in_ok-count.count (λ i. omega (arith, c.type_inv.bytes i)) c.in_ok-count.ensures.exact c.requires.end;
}

pub returns-in_err-exhibit : goal.returns-in_err-exhibit
returns-in_err-exhibit c =
    let p = err_from_is_err_and c.from_residual-in_err-exhibit.result c.from_residual-in_err-exhibit.ensures.1 in
    rw (p.1, p.2, behind_count c.args.n c.args.bytes.now (c.in_ok-count.count, c.in_ok-count.rest.now) c.in_ok-count.ensures.exact (rw c.from.ensures at c.in_ok-check.ensures.exact))
    (behind_ends (exhibit_at c.args.n) shown_general c.in_err-exhibit.field-0.0 c.loop.exhibits.items c.loop.before c.in_ok-count.count c.loop.counter c.loop.rest.now _ c.loop-test.true c.in_err-exhibit.ensures.exact c.loop.invariant.read)

pub loop-preserved : goal.loop-preserved
loop-preserved c = record {
  read =
      rw (c.in_ok-push.ensures.items, c.get-before.ensures.value, c.general.ensures) (behind_goes_on (exhibit_at c.args.n) shown_general c.loop.exhibits.items c.loop.before c.in_ok-count.count c.loop.counter c.loop.rest.now c.in_ok-exhibit.exhibit c.in_ok-exhibit.after.now _ c.loop-test.true c.in_ok-exhibit.ensures.exact c.loop.invariant.read);
  end = c.in_ok-exhibit.ensures.end;
}

pub returns : goal.returns
returns c =
    rw (behind_count c.args.n c.args.bytes.now (c.in_ok-count.count, c.in_ok-count.rest.now) c.in_ok-count.ensures.exact (rw c.from.ensures at c.in_ok-check.ensures.exact))
    (behind_is_done (exhibit_at c.args.n) shown_general c.loop.exhibits.items c.loop.before c.in_ok-count.count c.loop.counter c.loop.rest.now _ c.loop-test.false c.loop.invariant.read)
