use Rattle.std.proofs.Common.{◌≡◌, ℕ, List, length, Ok, refl, sym}
use Rattle.std.specs.Prelude.{nat_le}
use Rattle.std.proofs.lemmas.List.{nil_from_length}
use Rattle.std.proofs.lemmas.List.Elements.{All-cons, All-nil, All-same}
use Rattle.std.proofs.lemmas.Result.{err_from_is_err_and}
use Rattle.gen_types.specs.Reading.{check}
use Rattle.gen_log.specs.Fields.{AreBelow}
use Rattle.gen_log.specs.Writing.{LogBytes}
use Rattle.gen_audit.specs.declared.bundle_fault.BundleFault.TheVariants as faults
use Rattle.gen_audit.specs.Behind.{check_behind}
use Rattle.gen_audit.specs.BundleMaking.{exhibit_check, exhibits_check, shown_general}
use Rattle.gen_audit.specs.BundleParts.{most_exhibits}
use Rattle.gen_audit.proofs.BundleBehind.{check_goes_on, check_ends, check_is_done}
use Rattle.gen_audit.proofs.bundle_rules.check_all_exhibits.Goals as goal

abbrev OfBytes : LogBytes → Type 0
OfBytes x = AreBelow 256 x.bytes

behind_count : (n : ℕ) (exhibits : List LogBytes) → check (nat_le (length exhibits) most_exhibits) faults.BadExhibit ≡ Ok tt → exhibits_check n exhibits ≡ check_behind (exhibit_check n) shown_general 0 exhibits
unfolding exhibits_check
behind_count n exhibits few = rw few refl

pub returns-in_err-check_exhibit-clause-value : goal.returns-in_err-check_exhibit-clause-value
returns-in_err-check_exhibit-clause-value c =
    let p = err_from_is_err_and c.from_residual-in_err-check_exhibit.result c.from_residual-in_err-check_exhibit.ensures.1 in
    rw (p.1, p.2, behind_count c.args.n c.args.exhibits.now (sym c.in_ok-check_rule.ensures))
    (check_ends (exhibit_check c.args.n) shown_general c.loop-exhibit.before c.loop-exhibit.rest.now c.in-Some.exhibit.now c.in-Some.others.now c.in_err-check_exhibit.field-0.0 _ c.in-Some.ensures.cases.0 (sym c.in_err-check_exhibit.ensures.value) c.loop-exhibit.invariant.tested)

pub loop-exhibit-preserved : goal.loop-exhibit-preserved
loop-exhibit-preserved c = record {
  tested = rw (c.get-before.ensures.value, c.general.ensures) (check_goes_on (exhibit_check c.args.n) shown_general c.loop-exhibit.before c.loop-exhibit.rest.now c.in-Some.exhibit.now c.in-Some.others.now _ c.in-Some.ensures.cases.0 (sym c.in_ok-check_exhibit.ensures.value) c.loop-exhibit.invariant.tested);
  bytes = λ all. c.loop-exhibit.invariant.bytes (All-same OfBytes c.loop-exhibit.rest.now _ c.in-Some.ensures.cases.0 (All-cons OfBytes c.in-Some.exhibit.now c.in-Some.others.now c.in_ok-check_exhibit.ensures.bytes all));
}

pub returns-clause-value : goal.returns-clause-value
returns-clause-value c =
    rw (behind_count c.args.n c.args.exhibits.now (sym c.in_ok-check_rule.ensures))
    (check_is_done (exhibit_check c.args.n) shown_general c.loop-exhibit.before c.loop-exhibit.rest.now _ (nil_from_length _ c.in_default.ensures.cases) c.loop-exhibit.invariant.tested)

pub returns-clause-bytes : goal.returns-clause-bytes
returns-clause-bytes c = c.loop-exhibit.invariant.bytes (All-same OfBytes c.loop-exhibit.rest.now _ (nil_from_length _ c.in_default.ensures.cases) (All-nil OfBytes))
