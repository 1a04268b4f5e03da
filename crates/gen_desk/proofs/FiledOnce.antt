-- What a legal history files at a place, and what it reports.
use Rattle.std.proofs.Common.{◌≡◌, ◌≢◌, ℕ, zero, suc, ◌+◌, get_or, ◌==◌, ◌<◌, Bool, true, false, if◌then◌else◌, List, [], ◌∷◌, ◌++◌, length, replicate, slice_set, Option, Some, None, IfSome, Contains, refl, sym, ap, subst, ◌∙◌, inl, inr, arith}
use Rattle.std.specs.Option.{option_to_list}
use Rattle.std.specs.List.{All, range_with_len}
use Rattle.std.proofs.lemmas.Bool.Decides.{eqb_tells}
use Rattle.gen_log.specs.Writing.{LogBytes}
use Rattle.gen_local.specs.Report.{LocalReport, IsReport}
use Rattle.gen_desk.specs.declared.rows.Row.{Row}
use Rattle.gen_desk.specs.History.{Event, Filing, Claiming, Reporting, empty, row_at, after, replayed, IsLegalFrom, IsLegal}
use Rattle.gen_desk.specs.Histories.{History, rows_of, IsFiledAt}
use Rattle.gen_desk.specs.Filings.{filings, HasOnce, Lacks, IsReportedAt, IsFirstStrange, IsFirstUnfiled, AreFiledAt, IsOfRows}
use Rattle.gen_desk.specs.Tokens.{Placed}
use Rattle.gen_desk.proofs.Growing.{row_same, row_other}

abbrev filed_in : List Row → ℕ → List LogBytes
filed_in rows p = option_to_list (row_at rows p).filed

-- a write that keeps what is filed keeps it everywhere
keeps : (rows : List Row) (q : ℕ) (row : Row) (p : ℕ) → q < length rows → row.filed ≡ (row_at rows q).filed → filed_in (slice_set rows q row) p ≡ filed_in rows p
keeps rows q row p low same = elim (eqb_tells p q) [
  | inl e ↦ subst (λ k. filed_in (slice_set rows q row) k ≡ filed_in rows k) (sym e.1) (ap (λ (r : Row). option_to_list r.filed) (row_same rows q row low) ∙ ap option_to_list same)
  | inr ne ↦ ap (λ (r : Row). option_to_list r.filed) (row_other rows q p row ne.1)
]

-- what was filed at a place before, and then what the events file there
all_filed : (p : ℕ) (rows : List Row) (es : List Event) → IsLegalFrom rows es → filed_in rows p ++ filings p es ≡ filed_in (replayed rows es) p
all_filed p rows [] legal = Rattle.std.proofs.Common.append-nil (filed_in rows p)
all_filed p rows (Filing q shown ∷ es) legal = elim (eqb_tells q p) [
  | inl e ↦
      let at_p : (row_at rows p).filed ≡ None = subst (λ k. (row_at rows k).filed ≡ None) e.1 legal.0.1 in
      let now : filed_in (after rows (Filing q shown)) p ≡ shown ∷ [] =
      subst (λ k. filed_in (after rows (Filing q shown)) k ≡ shown ∷ []) e.1 (ap (λ (r : Row). option_to_list r.filed) (row_same rows q (record (row_at rows q) { filed = Some shown }) legal.0.0)) in
      let more = all_filed p (after rows (Filing q shown)) es legal.1 in
      ap (λ x. option_to_list x ++ (if q == p then shown ∷ filings p es else filings p es)) at_p
      ∙ (ap (λ b. if b then shown ∷ filings p es else filings p es) e.0 ∙ (ap (λ x. x ++ filings p es) (sym now) ∙ more))
  | inr ne ↦
      let same : filed_in (after rows (Filing q shown)) p ≡ filed_in rows p = ap (λ (r : Row). option_to_list r.filed) (row_other rows q p _ (λ e. ne.1 (sym e))) in
      ap (λ b. filed_in rows p ++ (if b then shown ∷ filings p es else filings p es)) ne.0
      ∙ (ap (λ x. x ++ filings p es) (sym same) ∙ all_filed p (after rows (Filing q shown)) es legal.1)
]
all_filed p rows (Claiming q ∷ es) legal =
    ap (λ x. x ++ filings p es) (sym (keeps rows q (record (row_at rows q) { claimed = true }) p legal.0.0 refl)) ∙ all_filed p (after rows (Claiming q)) es legal.1
all_filed p rows (Reporting q report ∷ es) legal =
    ap (λ x. x ++ filings p es) (sym (keeps rows q (record (row_at rows q) { report = Some report }) p legal.0.0 refl)) ∙ all_filed p (after rows (Reporting q report)) es legal.1

row_of_none : (n p : ℕ) → row_at (replicate n empty) p ≡ empty
row_of_none zero p = refl
row_of_none (suc n) zero = refl
row_of_none (suc n) (suc p) = row_of_none n p

pub filings_are : (h : History) (p : ℕ) → IsLegal h.places h.events → filings p h.events ≡ option_to_list (row_at (rows_of h) p).filed
filings_are h p legal =
    ap (λ (r : Row). option_to_list r.filed ++ filings p h.events) (sym (row_of_none h.places p)) ∙ all_filed p (replicate h.places empty) h.events legal

pub has_once : (h : History) (receipt : Placed) → IsLegal h.places h.events → IsFiledAt h receipt.place receipt.shown → HasOnce h receipt
has_once h receipt legal is = filings_are h receipt.place legal ∙ ap option_to_list is

-- what stands in the list of what is filed is what is filed
stands : (x : Option LogBytes) (shown : LogBytes) → Contains (option_to_list x) shown → x ≡ Some shown
stands None shown (k, low, is) = absurd (omega arith)
stands (Some y) shown (zero, low, is) = ap Some is
stands (Some y) shown (suc k, low, is) = absurd (omega arith)

pub lacks : (h : History) (receipt : Placed) → IsLegal h.places h.events → (IsFiledAt h receipt.place receipt.shown → ⊥) → Lacks h receipt
lacks h receipt legal not has = not (stands _ receipt.shown (subst (λ xs. Contains xs receipt.shown) (filings_are h receipt.place legal) has))

-- ---- reports

report_stays : (rows : List Row) (q : ℕ) (row : Row) → q < length rows → IsReportedAt row → ((p : ℕ) → IsReportedAt (row_at rows p)) → (p : ℕ) → IsReportedAt (row_at (slice_set rows q row) p)
report_stays rows q row low one each p = elim (eqb_tells p q) [
  | inl e ↦ subst (λ k. IsReportedAt (row_at (slice_set rows q row) k)) (sym e.1) (subst IsReportedAt (sym (row_same rows q row low)) one)
  | inr ne ↦ subst IsReportedAt (sym (row_other rows q p row ne.1)) (each p)
]

-- where nothing is filed nothing is reported
unreported : (filed new : Option LogBytes) (report : Option LocalReport) → filed ≡ None → IfSome report (λ r. (filed ≡ Some r.exhibit) × IsReport r) → IfSome report (λ r. (new ≡ Some r.exhibit) × IsReport r)
unreported filed new None none is = tt
unreported filed new (Some r) none is = let e : Some r.exhibit ≡ None = sym is.0 ∙ none in absurd (cc)

all_reports : (rows : List Row) (es : List Event) → IsLegalFrom rows es → ((p : ℕ) → IsReportedAt (row_at rows p)) → (p : ℕ) → IsReportedAt (row_at (replayed rows es) p)
all_reports rows [] legal each = each
all_reports rows (Filing q shown ∷ es) legal each =
    all_reports (after rows (Filing q shown)) es legal.1
    (report_stays rows q (record (row_at rows q) { filed = Some shown }) legal.0.0 (unreported (row_at rows q).filed (Some shown) (row_at rows q).report legal.0.1 (each q)) each)
all_reports rows (Claiming q ∷ es) legal each =
    all_reports (after rows (Claiming q)) es legal.1 (report_stays rows q (record (row_at rows q) { claimed = true }) legal.0.0 (each q) each)
all_reports rows (Reporting q report ∷ es) legal each =
    all_reports (after rows (Reporting q report)) es legal.1
    (report_stays rows q (record (row_at rows q) { report = Some report }) legal.0.0 (legal.0.3, legal.0.4) each)

pub reports_are : (h : History) → IsLegal h.places h.events → (p : ℕ) → IsReportedAt (row_at (rows_of h) p)
reports_are h legal = all_reports (replicate h.places empty) h.events legal (λ p. subst IsReportedAt (sym (row_of_none h.places p)) tt)

-- ---- receipts

pub first_strange : (h : History) (rows : List Row) (receipts : List Placed) (i : ℕ) → IsLegal h.places h.events → rows ≡ rows_of h → IsFirstUnfiled rows receipts i → IsFirstStrange h receipts i
first_strange h rows receipts i legal is first = record {
  within = first.within;
  strange = λ d. lacks h (get_or receipts i d) legal (λ at. first.unfiled d (subst (λ r. IsOfRows r (get_or receipts i d)) (sym is) at));
  before = λ k d low. has_once h (get_or receipts k d) legal (subst (λ r. IsOfRows r (get_or receipts k d)) is (first.before k d low));
}

pub all_once : (h : History) (rows : List Row) (receipts : List Placed) → IsLegal h.places h.events → rows ≡ rows_of h → AreFiledAt rows receipts → All (HasOnce h) receipts
all_once h rows receipts legal is filed k d low = has_once h (get_or receipts k d) legal (subst (λ r. IsOfRows r (get_or receipts k d)) is (filed k d low))

-- ---- slips

range_from : (a n : ℕ) → range_with_len a (suc n) ≡ range_with_len a n ++ (a + n) ∷ []
range_from a zero = let e : a ≡ a + 0 = omega arith in ap (λ x. x ∷ []) e
range_from a (suc n) = let e : a + 1 + n ≡ a + suc n = omega arith in ap (λ xs. a ∷ xs) (range_from (a + 1) n ∙ ap (λ x. range_with_len (a + 1) n ++ x ∷ []) e)

pub range_more : (n : ℕ) → range_with_len 0 (n + 1) ≡ range_with_len 0 n ++ n ∷ []
range_more n =
    let next : n + 1 ≡ suc n = omega arith in let e : 0 + n ≡ n = omega arith in
    ap (range_with_len 0) next ∙ (range_from 0 n ∙ ap (λ x. range_with_len 0 n ++ x ∷ []) e)
