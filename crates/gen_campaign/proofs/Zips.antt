-- Two lists side by side, which grow at the end, and what the reports of bundles show.
use Rattle.std.proofs.Common.{◌≡◌, ℕ, zero, suc, ◌+◌, ◌<◌, List, [], ◌∷◌, ◌++◌, length, map, take, get_or, inl, inr, refl, sym, ap, subst, ◌∙◌, arith}
use Rattle.std.specs.List.{AllZip}
use Rattle.std.proofs.lemmas.List.{take_more}
use Rattle.gen_types.specs.Members.{Contains_cases, Contains_nil}
use Rattle.gen_net.specs.Header.{RunHeader}
use Rattle.gen_log.specs.Writing.{LogBytes}
use Rattle.gen_local.specs.Report.{AreReportsOf, LocalReport}
use Rattle.gen_convict.specs.Across.{ShownRun}
use Rattle.gen_convict.specs.AcrossFinding.{RunReports, runs_of}
use Rattle.gen_convict.specs.AcrossLaws.{AreUnderHeaders, shown_runs}
use Rattle.gen_convict.specs.Convictions.{AreUnderHeader}
use Rattle.gen_audit.specs.Bundle.{Bundle}
use Rattle.gen_audit.specs.Telling.{AreReports}
use Rattle.gen_audit.proofs.Telling.{are_reports}
use Rattle.gen_campaign.specs.Judged.{shown_bundle, shown_bundles}

module _ {A B : Type 0} where
  zip_push : (R : A → B → Type 0) (xs : List A) (ys : List B) (x : A) (y : B) → AllZip R xs ys → R x y → AllZip R (xs ++ x ∷ []) (ys ++ y ∷ [])
  zip_push R [] [] x y h r = (r, tt)
  zip_push R [] (z ∷ ys) x y h r = absurd h
  zip_push R (w ∷ xs) [] x y h r = absurd h
  zip_push R (w ∷ xs) (z ∷ ys) x y h r = (h.0, zip_push R xs ys x y h.1 r)

  -- the step of a loop that goes over the one list and lengthens the other
  pub zip_more : (R : A → B → Type 0) (xs : List A) (ys : List B) (i : ℕ) (x : A) (y : B) → i < length xs → x ≡ get_or xs i x → AllZip R (take i xs) ys → R x y → AllZip R (take (i + 1) xs) (ys ++ y ∷ [])
  zip_more R xs ys i x y lt is h r =
      subst (λ l. AllZip R l (ys ++ y ∷ [])) (ap (λ z. take i xs ++ z ∷ []) is ∙ sym (take_more xs i x lt)) (zip_push R (take i xs) ys x y h r)

-- ---- the reports of bundles

-- the step of a loop that makes them, bundle by bundle
pub reports_more : (bundles : List Bundle) (lists : List (List LocalReport)) (i : ℕ) (b : Bundle) (reports : List LocalReport) → i < length bundles → b ≡ get_or bundles i b → AllZip AreReports (take i bundles) lists
    → AreReportsOf b.header b.exhibits reports → AllZip AreReports (take (i + 1) bundles) (lists ++ reports ∷ [])
reports_more bundles lists i b reports lt is before made = zip_more AreReports bundles lists i b reports lt is before (are_reports b reports made)

abbrev pub headers_in : List Bundle → List RunHeader
headers_in bundles = map (λ b. b.header) bundles

-- those in the place of a bundle are the bundle's
pub reports_there : {V : Type 0} (bundles : List Bundle) (seen : List V) (f : V → List LocalReport) (k : ℕ) (b : Bundle) (v : V) → AllZip AreReports bundles (map f seen) → k < length bundles → b ≡ get_or bundles k b → v ≡ get_or seen k v → AreReports b (f v)
reports_there [] seen f k b v h lt is at = absurd (omega (arith, lt))
reports_there (x ∷ bundles) [] f k b v h lt is at = absurd h
reports_there (x ∷ bundles) (s ∷ seen) f zero b v h lt is at = subst (λ (y : Bundle). AreReports y (f v)) (sym is) (subst (λ w. AreReports x (f w)) (sym at) h.0)
reports_there (x ∷ bundles) (s ∷ seen) f (suc k) b v h lt is at = reports_there bundles seen f k b v h.1 (omega (arith, lt)) is at

-- they show what the bundles show
pub same_shown : (bundles : List Bundle) (lists : List (List LocalReport)) → AllZip AreReports bundles lists → shown_runs (runs_of (headers_in bundles) lists) ≡ shown_bundles bundles
same_shown [] [] h = refl
same_shown [] (l ∷ lists) h = absurd h
same_shown (b ∷ bundles) [] h = absurd h
same_shown (b ∷ bundles) (l ∷ lists) h =
    ap (λ (xs : List LogBytes). record { header = b.header; exhibits = xs } ∷ shown_runs (runs_of (headers_in bundles) lists)) h.0.exhibits
    ∙ ap (λ (rs : List ShownRun). shown_bundle b ∷ rs) (same_shown bundles lists h.1)

-- and are under the bundles' headers
pub all_under : (bundles : List Bundle) (lists : List (List LocalReport)) → AllZip AreReports bundles lists → AreUnderHeaders (runs_of (headers_in bundles) lists)
all_under [] [] h r k = absurd (Contains_nil r k)
all_under [] (l ∷ lists) h r k = absurd h
all_under (b ∷ bundles) [] h r k = absurd h
all_under (b ∷ bundles) (l ∷ lists) h r k =
    elim (Contains_cases (record { header = b.header; reports = l }) r (runs_of (headers_in bundles) lists) k) [
      | inl same ↦ subst (λ (x : RunReports). AreUnderHeader x.header x.reports) same h.0.header
      | inr later ↦ all_under bundles lists h.1 r later
    ]

-- there is one list for each
pub as_many : (bundles : List Bundle) (lists : List (List LocalReport)) → AllZip AreReports bundles lists → length (headers_in bundles) ≡ length lists
as_many [] [] h = refl
as_many [] (l ∷ lists) h = absurd h
as_many (b ∷ bundles) [] h = absurd h
as_many (b ∷ bundles) (l ∷ lists) h = ap suc (as_many bundles lists h.1)
