use Rattle.std.proofs.Common.{◌≡◌, ◌∙◌, ℕ, Bool, true, false, List, [], codes, Ok, Err, refl, sym, ap}
use Rattle.std.proofs.lemmas.List.Elements.{All-push}
use Rattle.std.proofs.lemmas.Result.{err_from_is_err_and}
use Rattle.gen_types.specs.declared.reading.ReadError.{ReadError}
use Rattle.gen_types.specs.declared.reading.ReadError.TheVariants as errors
use Rattle.gen_types.specs.Reading.{◌>>=◌, check, Fails}
use Rattle.gen_scenario.specs.Scenario.{Scenario, IsScenario}
use Rattle.gen_text.specs.declared.cursor.Numbered.{Numbered}
use Rattle.gen_text.specs.declared.fault.LineFault.TheVariants.{Extra}
use Rattle.gen_text.specs.declared.fault.ScenarioFault.{ScenarioFault}
use Rattle.gen_text.specs.Cursor.{Cursor, start_of}
use Rattle.gen_text.specs.CursorReading.{numbered, is_over}
use Rattle.gen_text.specs.LineReading.{fault_at}
use Rattle.gen_campaign.specs.Campaign.{is_run_count}
use Rattle.gen_campaign.specs.CampaignTextReading.{texts_at, campaign_text_of}
use Rattle.gen_campaign.proofs.TextLoop.{goes_on, ends, is_done}
use Rattle.gen_campaign.proofs.campaign_text.whole.Goals as goal

module _ (text : List ℕ) (x : Numbered × Cursor) (counted : numbered (codes "campaign") (start_of text) ≡ Ok x) (few : is_run_count x.0.value ≡ true) where
  behind_count : campaign_text_of text ≡ (texts_at [] x.0.value x.1 >>= λ texts. check (is_over texts.1) (fault_at Extra texts.1.line) >>= λ over. Ok texts.0)
  unfolding campaign_text_of
  behind_count = rw (counted, few) refl

  no_texts : (e : ReadError ScenarioFault) → Fails e (texts_at [] x.0.value x.1) → Fails e (campaign_text_of text)
  no_texts errors.Memory h = tt
  no_texts (errors.Fault f) h = rw (behind_count, h) refl

  is_more : (texts : List Scenario × Cursor) → texts_at [] x.0.value x.1 ≡ Ok texts → is_over texts.1 ≡ false → campaign_text_of text ≡ Err (fault_at Extra texts.1.line)
  is_more texts h more = rw (behind_count, h, more) refl

  is_text : (texts : List Scenario × Cursor) → texts_at [] x.0.value x.1 ≡ Ok texts → is_over texts.1 ≡ true → campaign_text_of text ≡ Ok texts.0
  is_text texts h over = rw (behind_count, h, over) refl

pub returns-in_err-plan : goal.returns-in_err-plan
returns-in_err-plan c =
    let p = err_from_is_err_and c.from_residual-in_err-plan.result c.from_residual-in_err-plan.ensures.1 in
    let counted = rw c.start.ensures at c.in_ok-count.ensures in
    let few = ap is_run_count (sym c.from.ensures) ∙ sym c.is_run_count.ensures ∙ c.if-not-is_run_count.false in
    rw (p.1, p.2) (record {
      exact = no_texts c.args.text.now (c.in_ok-count.count, c.in_ok-count.cursor) counted few c.in_err-plan.field-0.0 (ends c.in_err-plan.field-0.0 c.loop-place.plans.items c.in_ok-count.count.value c.loop-place._place c.loop-place.cursor _ c.loop-place-test.true (rw c.as_slice.ensures.value at c.in_err-plan.ensures.exact) c.loop-place.invariant.read);
      lawful = tt;
    })

pub loop-place-preserved : goal.loop-place-preserved
loop-place-preserved c = record {
  read =
      rw c.in_ok-push.ensures.items (goes_on c.loop-place.plans.items c.in_ok-count.count.value c.loop-place._place c.loop-place.cursor c.in_ok-plan.plan c.in_ok-plan.after _ c.loop-place-test.true (rw c.as_slice.ensures.value at c.in_ok-plan.ensures.exact) c.loop-place.invariant.read);
  lawful = rw c.in_ok-push.ensures.items (All-push IsScenario c.loop-place.plans.items c.in_ok-plan.plan c.loop-place.invariant.lawful c.in_ok-plan.ensures.lawful);
}

pub returns-then-not-is_over-clause-exact : goal.returns-then-not-is_over-clause-exact
returns-then-not-is_over-clause-exact c =
    let counted = rw c.start.ensures at c.in_ok-count.ensures in
    let few = ap is_run_count (sym c.from.ensures) ∙ sym c.is_run_count.ensures ∙ c.if-not-is_run_count.false in
    let texts = is_done c.loop-place.plans.items c.in_ok-count.count.value c.loop-place._place c.loop-place.cursor _ c.loop-place-test.false c.loop-place.invariant.read in
    rw (c.refused-then-not-is_over.ensures, c.line.ensures) (is_more c.args.text.now (c.in_ok-count.count, c.in_ok-count.cursor) counted few (c.loop-place.plans.items, c.loop-place.cursor) texts (sym c.is_over.ensures ∙ c.if-not-is_over.true))

pub returns-clause-exact : goal.returns-clause-exact
returns-clause-exact c =
    let counted = rw c.start.ensures at c.in_ok-count.ensures in
    let few = ap is_run_count (sym c.from.ensures) ∙ sym c.is_run_count.ensures ∙ c.if-not-is_run_count.false in
    let texts = is_done c.loop-place.plans.items c.in_ok-count.count.value c.loop-place._place c.loop-place.cursor _ c.loop-place-test.false c.loop-place.invariant.read in
    is_text c.args.text.now (c.in_ok-count.count, c.in_ok-count.cursor) counted few (c.loop-place.plans.items, c.loop-place.cursor) texts (sym c.is_over.ensures ∙ c.if-not-is_over.false)
