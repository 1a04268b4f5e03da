-- One event more in a desk's history.
use Rattle.std.proofs.Common.{◌≡◌, ◌≢◌, ℕ, ◌<◌, inl, inr, true, false, List, [], ◌∷◌, ◌++◌, length, map, slice_set, Option, Some, None, IsSome, refl, sym, ap, subst, ◌∙◌, append_assoc}
use Rattle.std.specs.List.{flat_map}
use Rattle.std.proofs.lemmas.Bool.Decides.{eqb_tells}
use Rattle.std.proofs.lemmas.List.{length-set, get_or-set_same, get_or-set_other}
use Rattle.gen_log.specs.Writing.{LogBytes}
use Rattle.gen_local.specs.Report.{LocalReport}
use Rattle.gen_desk.specs.declared.rows.Row.{Row}
use Rattle.gen_desk.specs.declared.rows.Step.{Step}
use Rattle.gen_desk.specs.declared.rows.Step.TheVariants.{Filed, Claimed, Reported}
use Rattle.gen_desk.specs.History.{Event, Filing, Claiming, Reporting, empty, row_at, after, MayHappen, replayed, replay, IsLegalFrom, IsLegal}
use Rattle.gen_desk.specs.Histories.{with_event}
use Rattle.gen_desk.specs.Kept.{event_of, IsTold, AreTold, events_of, history_of, IsKept}

-- ---- rows

pub row_same : (rows : List Row) (p : ℕ) (row : Row) → p < length rows → row_at (slice_set rows p row) p ≡ row
row_same rows p row low = get_or-set_same rows p row empty low

pub row_other : (rows : List Row) (p q : ℕ) (row : Row) → q ≢ p → row_at (slice_set rows p row) q ≡ row_at rows q
row_other rows p q row other = get_or-set_other rows p q row empty other

pub after_length : (rows : List Row) (e : Event) → length (after rows e) ≡ length rows
after_length rows (Filing p shown) = length-set rows p _
after_length rows (Claiming p) = length-set rows p _
after_length rows (Reporting p report) = length-set rows p _

-- ---- histories

pub replayed_more : (rows : List Row) (es : List Event) (e : Event) → replayed rows (es ++ e ∷ []) ≡ after (replayed rows es) e
replayed_more rows [] e = refl
replayed_more rows (d ∷ es) e = replayed_more (after rows d) es e

pub legal_more : (rows : List Row) (es : List Event) (e : Event) → IsLegalFrom rows es → MayHappen (replayed rows es) e → IsLegalFrom rows (es ++ e ∷ [])
legal_more rows [] e legal may = (may, tt)
legal_more rows (d ∷ es) e legal may = (legal.0, legal_more (after rows d) es e legal.1 may)

-- ---- what a place has stays

pub record Stays (old new : Row) : Type 0 where
  pub filed : IsSome old.filed → new.filed ≡ old.filed
  pub report : IsSome old.report → new.report ≡ old.report

none_some : {A : Type 0} (P : Type 0) (x : Option A) → x ≡ None → IsSome x → P
none_some P x e some = let f : false ≡ true = ap Rattle.std.specs.Prelude.is_some (sym e) ∙ some in absurd (cc)

pub stays_at : (rows : List Row) (p q : ℕ) (row : Row) → p < length rows → Stays (row_at rows p) row → Stays (row_at rows q) (row_at (slice_set rows p row) q)
stays_at rows p q row low stays = elim (eqb_tells q p) [
  | inl same ↦ subst (λ k. Stays (row_at rows k) (row_at (slice_set rows p row) k)) (sym same.1) (subst (Stays (row_at rows p)) (sym (row_same rows p row low)) stays)
  | inr other ↦ subst (Stays (row_at rows q)) (sym (row_other rows p q row other.1)) (record { filed = λ _. refl; report = λ _. refl })
]

pub stays_after : (rows : List Row) (e : Event) → MayHappen rows e → (q : ℕ) → Stays (row_at rows q) (row_at (after rows e) q)
stays_after rows (Filing p shown) may q =
    stays_at rows p q _ may.0 (record { filed = none_some _ (row_at rows p).filed may.1; report = λ _. refl })
stays_after rows (Claiming p) may q = stays_at rows p q _ may.0 (record { filed = λ _. refl; report = λ _. refl })
stays_after rows (Reporting p report) may q =
    stays_at rows p q _ may.0 (record { filed = λ _. refl; report = none_some _ (row_at rows p).report may.2 })

-- ---- what was told stays

some_by : {A : Type 0} (old new : Option A) → (IsSome old → new ≡ old) → IsSome old → IsSome new
some_by old new e some = subst IsSome (sym (e some)) some

module _ (rows new : List Row) (stays : (q : ℕ) → Stays (row_at rows q) (row_at new q)) where
  told_after : (s : Step) → IsTold rows s → IsTold new s
  told_after (Filed p) told = some_by _ _ (stays p).filed told
  told_after (Claimed p) told = tt
  told_after (Reported p) told = some_by _ _ (stays p).report told

  all_told : (ss : List Step) → AreTold rows ss → AreTold new ss
  all_told [] told = tt
  all_told (s ∷ ss) told = (told_after s told.0, all_told ss told.1)

  same_event : (s : Step) → IsTold rows s → event_of new s ≡ event_of rows s
  same_event (Filed p) told = ap (λ x. map (Filing p) (Rattle.std.specs.Option.option_to_list x)) ((stays p).filed told)
  same_event (Claimed p) told = refl
  same_event (Reported p) told = ap (λ x. map (Reporting p) (Rattle.std.specs.Option.option_to_list x)) ((stays p).report told)

  same_events : (ss : List Step) → AreTold rows ss → events_of new ss ≡ events_of rows ss
  same_events [] told = refl
  same_events (s ∷ ss) told = ap (λ x. x ++ events_of new ss) (same_event s told.0) ∙ ap (λ x. event_of rows s ++ x) (same_events ss told.1)

told_more : (rows : List Row) (ss : List Step) (s : Step) → AreTold rows ss → IsTold rows s → AreTold rows (ss ++ s ∷ [])
told_more rows [] s all one = (one, tt)
told_more rows (r ∷ ss) s all one = (all.0, told_more rows ss s all.1 one)

events_more : (rows : List Row) (ss : List Step) (s : Step) (e : Event) → event_of rows s ≡ e ∷ [] → events_of rows (ss ++ s ∷ []) ≡ events_of rows ss ++ e ∷ []
events_more rows [] s e is = ap (λ x. x ++ []) is
events_more rows (r ∷ ss) s e is = ap (λ x. event_of rows r ++ x) (events_more rows ss s e is) ∙ sym (append_assoc (event_of rows r) (events_of rows ss) (e ∷ []))

-- ---- the desk with one event more

pub record Grows (rows : List Row) (steps : List Step) (e : Event) (rows' : List Row) (steps' : List Step) : Type 0 where
  pub kept : IsKept rows' steps'
  pub history : history_of rows' steps' ≡ with_event (history_of rows steps) e

grows_by : (rows : List Row) (ss : List Step) (e : Event) (s : Step) → IsKept rows ss → MayHappen rows e
    → event_of (after rows e) s ≡ e ∷ [] → IsTold (after rows e) s → Grows rows ss e (after rows e) (ss ++ s ∷ [])
grows_by rows ss e s kept may is told =
    let new = after rows e in
    let n : length new ≡ length rows = after_length rows e in
    let stays = stays_after rows e may in
    let events : events_of new (ss ++ s ∷ []) ≡ events_of rows ss ++ e ∷ [] =
    events_more new ss s e is ∙ ap (λ x. x ++ e ∷ []) (same_events rows new stays ss kept.told) in
    let legal : IsLegal (length rows) (events_of rows ss ++ e ∷ []) =
    legal_more _ (events_of rows ss) e kept.legal (subst (λ r. MayHappen r e) (sym kept.replays) may) in
    let replays : replay (length rows) (events_of rows ss ++ e ∷ []) ≡ new =
    replayed_more _ (events_of rows ss) e ∙ ap (λ r. after r e) kept.replays in
    record {
      kept = record {
        told = told_more new ss s (all_told rows new stays ss kept.told) told;
        legal = subst (λ k. IsLegal k (events_of new (ss ++ s ∷ []))) (sym n) (subst (IsLegal (length rows)) (sym events) legal);
        replays = ap (λ k. replay k (events_of new (ss ++ s ∷ []))) n ∙ (ap (replay (length rows)) events ∙ replays);
      };
      history = ap (λ k. record { places = k; events = events_of new (ss ++ s ∷ []) }) n ∙ ap (λ es. record { places = length rows; events = es }) events;
    }

pub files : (rows : List Row) (ss : List Step) (p : ℕ) (shown : LogBytes) → IsKept rows ss → MayHappen rows (Filing p shown)
    → Grows rows ss (Filing p shown) (after rows (Filing p shown)) (ss ++ Filed p ∷ [])
files rows ss p shown kept may =
    let here = row_same rows p (record (row_at rows p) { filed = Some shown }) may.0 in
    grows_by rows ss (Filing p shown) (Filed p) kept may
    (ap (λ (r : Row). map (Filing p) (Rattle.std.specs.Option.option_to_list r.filed)) here)
    (subst (λ (r : Row). IsSome r.filed) (sym here) refl)

pub claims : (rows : List Row) (ss : List Step) (p : ℕ) → IsKept rows ss → MayHappen rows (Claiming p)
    → Grows rows ss (Claiming p) (after rows (Claiming p)) (ss ++ Claimed p ∷ [])
claims rows ss p kept may = grows_by rows ss (Claiming p) (Claimed p) kept may refl tt

pub reports : (rows : List Row) (ss : List Step) (p : ℕ) (report : LocalReport) → IsKept rows ss → MayHappen rows (Reporting p report)
    → Grows rows ss (Reporting p report) (after rows (Reporting p report)) (ss ++ Reported p ∷ [])
reports rows ss p report kept may =
    let here = row_same rows p (record (row_at rows p) { report = Some report }) may.0 in
    grows_by rows ss (Reporting p report) (Reported p) kept may
    (ap (λ (r : Row). map (Reporting p) (Rattle.std.specs.Option.option_to_list r.report)) here)
    (subst (λ (r : Row). IsSome r.report) (sym here) refl)
