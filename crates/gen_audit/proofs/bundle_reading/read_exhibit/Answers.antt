use Rattle.std.proofs.Common.{◌≡◌, ℕ, ◌-◌, List, length, Ok, refl, arith}
use Rattle.std.specs.Arc.{arc_slice_items}
use Rattle.std.specs.Prelude.{slice_range, nat_lt, nat_le}
use Rattle.gen_types.specs.Reading.{check}
use Rattle.gen_types.specs.Bytes.{byte_at}
use Rattle.gen_audit.specs.declared.bundle_fault.BundleFault.TheVariants as faults
use Rattle.gen_audit.specs.BundleReading.{owner_at, exhibit_at}
use Rattle.gen_audit.proofs.InputEnds.{log_in, log_end, log_count, log_range}
use Rattle.gen_audit.proofs.bundle_reading.read_exhibit.Goals as goal

is_owner : (n before : ℕ) (bytes : List ℕ) (x : ℕ × List ℕ) → byte_at faults.Truncated bytes ≡ Ok x → check (nat_lt x.0 n) faults.BadExhibit ≡ Ok tt → check (nat_le before x.0) faults.OutOfOrder ≡ Ok tt → owner_at n before bytes ≡ Ok x
unfolding owner_at
is_owner n before bytes x h k o = rw (h, k, o) refl

pub overflow_sub-to : goal.overflow_sub-to
overflow_sub-to c =
    let owner = is_owner c.args.n c.args.before c.args.bytes.now (c.in_ok-general.general, c.in_ok-general.rest.now) c.in_ok-general.ensures.exact c.in_ok-check.ensures.exact c.in_ok-check-2.ensures.exact in
    let all = arc_slice_items c.args.input.now in
    let is = log_in all c.args.bytes.now c.args.n c.args.before (c.in_ok-general.general, c.in_ok-general.rest.now) (c.in_ok-size.size, c.in_ok-size.rest.now) (c.in_ok-log.log.now, c.in_ok-log.rest.now) (λ i. omega (arith, c.type_inv.bytes i)) owner c.in_ok-size.ensures.exact c.in_ok-log.ensures.exact c.requires.end in
    let count = log_count all c.in_ok-log.log.now c.in_ok-log.rest.now is in
    omega (arith, count, c.len.ensures)

pub overflow_sub-to-2 : goal.overflow_sub-to-2
overflow_sub-to-2 c =
    let owner = is_owner c.args.n c.args.before c.args.bytes.now (c.in_ok-general.general, c.in_ok-general.rest.now) c.in_ok-general.ensures.exact c.in_ok-check.ensures.exact c.in_ok-check-2.ensures.exact in
    let all = arc_slice_items c.args.input.now in
    let is = log_in all c.args.bytes.now c.args.n c.args.before (c.in_ok-general.general, c.in_ok-general.rest.now) (c.in_ok-size.size, c.in_ok-size.rest.now) (c.in_ok-log.log.now, c.in_ok-log.rest.now) (λ i. omega (arith, c.type_inv.bytes i)) owner c.in_ok-size.ensures.exact c.in_ok-log.ensures.exact c.requires.end in
    let count = log_count all c.in_ok-log.log.now c.in_ok-log.rest.now is in
    omega (arith, count, c.len.ensures)

pub returns-clause-exact : goal.returns-clause-exact
unfolding exhibit_at
returns-clause-exact c =
    let owner = is_owner c.args.n c.args.before c.args.bytes.now (c.in_ok-general.general, c.in_ok-general.rest.now) c.in_ok-general.ensures.exact c.in_ok-check.ensures.exact c.in_ok-check-2.ensures.exact in
    let all = arc_slice_items c.args.input.now in
    let is = log_in all c.args.bytes.now c.args.n c.args.before (c.in_ok-general.general, c.in_ok-general.rest.now) (c.in_ok-size.size, c.in_ok-size.rest.now) (c.in_ok-log.log.now, c.in_ok-log.rest.now) (λ i. omega (arith, c.type_inv.bytes i)) owner c.in_ok-size.ensures.exact c.in_ok-log.ensures.exact c.requires.end in
    let to = c.len.result - length c.in_ok-log.rest.now in
    let from = to - length c.in_ok-log.log.now in
    let at : to ≡ length all - length c.in_ok-log.rest.now = omega (arith, c.len.ensures) in
    let range : slice_range all from to ≡ c.in_ok-log.log.now = log_range all c.in_ok-log.log.now c.in_ok-log.rest.now is from to at refl in
    rw (c.in_ok-exhibit.ensures, c.at.ensures, owner, c.in_ok-size.ensures.exact, c.in_ok-log.ensures.exact, range) refl

pub returns-clause-end : goal.returns-clause-end
returns-clause-end c =
    let owner = is_owner c.args.n c.args.before c.args.bytes.now (c.in_ok-general.general, c.in_ok-general.rest.now) c.in_ok-general.ensures.exact c.in_ok-check.ensures.exact c.in_ok-check-2.ensures.exact in
    let all = arc_slice_items c.args.input.now in
    log_end all c.in_ok-log.log.now c.in_ok-log.rest.now (log_in all c.args.bytes.now c.args.n c.args.before (c.in_ok-general.general, c.in_ok-general.rest.now) (c.in_ok-size.size, c.in_ok-size.rest.now) (c.in_ok-log.log.now, c.in_ok-log.rest.now) (λ i. omega (arith, c.type_inv.bytes i)) owner c.in_ok-size.ensures.exact c.in_ok-log.ensures.exact c.requires.end)
