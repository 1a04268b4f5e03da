use Rattle.std.proofs.Common.{◌≡◌, ◌+◌, ◌-◌, ℕ, Bool, true, false, List, [], ◌∷◌, Result, Ok, Err, ◌∙◌, refl, ap, sym, length, length-append, arith}
use Rattle.std.specs.Arc.{arc_slice_items}
use Rattle.std.proofs.lemmas.Result.{err_from_is_err_and}
use Rattle.gen_types.specs.declared.reading.ReadError.{ReadError}
use Rattle.gen_types.specs.declared.reading.ReadError.TheVariants as errors
use Rattle.gen_types.specs.Reading.{◌>>=◌, check, Fails}
use Rattle.gen_types.specs.Bytes.{byte_at}
use Rattle.gen_types.proofs.ByteFields.{byte_takes}
use Rattle.gen_types.proofs.ManyFields.{with_front}
use Rattle.gen_audit.specs.Bundle.{Bundle}
use Rattle.gen_campaign.specs.declared.campaign_fault.CampaignFault.{CampaignFault}
use Rattle.gen_campaign.specs.declared.campaign_fault.CampaignFault.TheVariants as faults
use Rattle.gen_campaign.specs.Campaign.{is_run_count}
use Rattle.gen_campaign.specs.CampaignReading.{runs_at, several_at}
use Rattle.gen_campaign.proofs.CampaignLaws.{passed, behind_count, runs_from}
use Rattle.gen_campaign.proofs.RunLaws.{runs_go_on, runs_end, runs_are_done}
use Rattle.gen_campaign.proofs.campaign_reading.read_several.Goals as goal

none_before : {A F : Type 0} (read : Result (List A × List ℕ) F) → with_front [] read ≡ read
none_before (Ok x) = refl
none_before (Err f) = refl

module _ (bytes : List ℕ) (x : ℕ × List ℕ) (counted : byte_at faults.NoCount bytes ≡ Ok x) (few : is_run_count x.0 ≡ true) where
  no_runs : (e : ReadError CampaignFault) → Fails e (runs_at [] x.0 x.1) → Fails e (several_at bytes)
  unfolding several_at
  no_runs errors.Memory h = tt
  no_runs (errors.Fault f) h = rw (counted, few, h) refl

  are_several : (runs : List Bundle × List ℕ) → runs_at [] x.0 x.1 ≡ Ok runs → several_at bytes ≡ Ok (record { alone = false; bundles = runs.0 }, runs.1)
  unfolding several_at
  are_several runs h = rw (counted, few, h) refl

pub loop-place-init : goal.loop-place-init
loop-place-init c = record {
  read = (let all : c.in_ok-count.count - 0 ≡ c.in_ok-count.count = omega arith in rw (c.new-bundles.ensures.items, all) (none_before _));
  counted = ap length c.new-bundles.ensures.items;
  end = behind_count (arc_slice_items c.args.input.now) c.args.bytes.now c.in_ok-count.count c.in_ok-count.rest.now (λ i. omega (arith, c.type_inv.bytes i)) c.in_ok-count.ensures.exact c.requires;
}

pub returns-in_err-bundle : goal.returns-in_err-bundle
returns-in_err-bundle c =
    let p = err_from_is_err_and c.from_residual-in_err-bundle.result c.from_residual-in_err-bundle.ensures.1 in
    let few : is_run_count c.in_ok-count.count ≡ true = ap is_run_count (sym c.from.ensures) ∙ sym c.is_run_count.ensures ∙ passed c.is_run_count.result _ _ c.in_ok-check.ensures.exact in
    rw (p.1, p.2) (no_runs c.args.bytes.now (c.in_ok-count.count, c.in_ok-count.rest.now) c.in_ok-count.ensures.exact few c.in_err-bundle.field-0.0 (runs_end c.in_err-bundle.field-0.0 c.loop-place.bundles.items c.in_ok-count.count c.loop-place.place c.loop-place.rest.now _ c.loop-place-test.true (rw c.as_slice.ensures.value at c.in_err-bundle.ensures.exact) c.loop-place.invariant.read))

pub loop-place-preserved : goal.loop-place-preserved
loop-place-preserved c = record {
  read =
      rw c.in_ok-push.ensures.items (runs_go_on c.loop-place.bundles.items c.in_ok-count.count c.loop-place.place c.loop-place.rest.now c.in_ok-bundle.bundle c.in_ok-bundle.after.now _ c.loop-place-test.true (rw c.as_slice.ensures.value at c.in_ok-bundle.ensures.exact) c.loop-place.invariant.read);
  counted = rw c.in_ok-push.ensures.items (length-append c.loop-place.bundles.items (c.in_ok-bundle.bundle ∷ []) ∙ ap (λ k. k + 1) c.loop-place.invariant.counted);
  end = c.in_ok-bundle.ensures.end;
}

pub invariant_of-campaign : goal.invariant_of-campaign
invariant_of-campaign c =
    let t = byte_takes faults.NoCount c.args.bytes.now c.in_ok-count.count c.in_ok-count.rest.now (λ i. omega (arith, c.type_inv.bytes i)) c.in_ok-count.ensures.exact in
    let few : is_run_count c.in_ok-count.count ≡ true = ap is_run_count (sym c.from.ensures) ∙ sym c.is_run_count.ensures ∙ passed c.is_run_count.result _ _ c.in_ok-check.ensures.exact in
    let runs = runs_are_done c.loop-place.bundles.items c.in_ok-count.count c.loop-place.place c.loop-place.rest.now _ c.loop-place-test.false c.loop-place.invariant.read in
    runs_from c.in_ok-count.count c.in_ok-count.rest.now (c.loop-place.bundles.items, c.loop-place.rest.now) t.0.rest_fits few runs

pub returns : goal.returns
returns c =
    let few : is_run_count c.in_ok-count.count ≡ true = ap is_run_count (sym c.from.ensures) ∙ sym c.is_run_count.ensures ∙ passed c.is_run_count.result _ _ c.in_ok-check.ensures.exact in
    let runs = runs_are_done c.loop-place.bundles.items c.in_ok-count.count c.loop-place.place c.loop-place.rest.now _ c.loop-place-test.false c.loop-place.invariant.read in
    are_several c.args.bytes.now (c.in_ok-count.count, c.in_ok-count.rest.now) c.in_ok-count.ensures.exact few (c.loop-place.bundles.items, c.loop-place.rest.now) runs
