-- What the rest decided, by the reports of their exhibits.
use Rattle.std.proofs.Common.{◌≡◌, ℕ, ◌<◌, ◌+◌, inl, inr, List, [], ◌∷◌, ◌++◌, get_or, length, take, map, Contains, All, AllPairs, Some, None, refl, sym, ap, ◌∙◌, subst, arith}
use Rattle.std.specs.Prelude.{slice_get}
use Rattle.std.specs.Bool.{nat_eq}
use Rattle.std.proofs.lemmas.Bool.{eqb-true, eq-eqb}
use Rattle.std.proofs.lemmas.List.{take_more, append-nil}
use Rattle.std.proofs.lemmas.List.Elements.{Contains-push_cases, Contains-push, All-contains}
use Rattle.gen_types.specs.Ascending.{IsListOf}
use Rattle.gen_match.specs.declared.finding.Finding.TheVariants.{Nobody}
use Rattle.gen_types.proofs.Lists.{Contains-middle, Contains_nil, Contains_here, Contains_filtered, Contains_mapped}
use Rattle.gen_core.proofs.OrderedLists.{only, AllPairs-head, AllPairs-tail, AllPairs-cons}
use Rattle.gen_net.specs.Log.{LogEntry, Decided}
use Rattle.gen_log.specs.declared.entries.Entry.TheVariants.{Decide}
use Rattle.gen_log.specs.Entry.{erase}
use Rattle.gen_local.specs.declared.reading.Reading.{Reading}
use Rattle.gen_local.specs.declared.reading.Reading.TheVariants.{Unreadable, Foreign, Own}
use Rattle.gen_local.specs.Erased.{erased}
use Rattle.gen_local.specs.FoundLog.{FoundLog}
use Rattle.gen_local.specs.Report.{LocalReport}
use Rattle.gen_scenario.specs.declared.scenario.Decision.{Decision}
use Rattle.gen_scenario.proofs.Having.{in_filtered, in_mapped}
use Rattle.gen_match.specs.Matching.{Logged}
use Rattle.gen_match.specs.Reports.{entries_told, sole_told, reports_of}
use Rattle.gen_audit.specs.Bundle.{Bundle, IsBundle, IsOfRest, logs_of}
use Rattle.gen_audit.specs.Collecting.{DecidesIn, ReadsAsOwn}
use Rattle.gen_audit.specs.Supported.{IsClean, IsSupported, HasFew, AgreeOn}
use Rattle.gen_audit.specs.Telling.{AreReports}
use Rattle.gen_audit.specs.Verdict.{IsDecision, AreDecisions}
use Rattle.gen_audit.proofs.Deciders.{each_decided_once}
use Rattle.gen_audit.proofs.Supporting.{clean_is_supported, clean_agrees}
use Rattle.gen_audit.proofs.Telling.{reports_tell_logs}

-- a reading that tells entries is of one's own log
own_told : (reading : Reading) (log : List LogEntry) → entries_told reading ≡ Some log → (found : FoundLog) × (reading ≡ Own found)
own_told (Unreadable fault) log e = absurd (cc)
own_told Foreign log e = absurd (cc)
own_told (Own found) log e = (found, refl)

-- reports that tell entries are one
one_report : (rs : List LocalReport) (log : List LogEntry) → sole_told rs ≡ Some log → (r : LocalReport) × (rs ≡ r ∷ []) × (entries_told r.reading ≡ Some log)
one_report [] log e = absurd (cc)
one_report (r ∷ []) log e = (r, refl, e)
one_report (r ∷ s ∷ more) log e = absurd (cc)

-- a report that names g
filtered : (reports : List LocalReport) (g : ℕ) (r : LocalReport) → Contains (reports_of reports g) r → Contains reports r × (r.exhibit.general ≡ g)
filtered reports g r h = let k = Contains_filtered (λ (x : LocalReport). nat_eq x.exhibit.general g) reports r h in (k.0, eqb-true r.exhibit.general g k.1)

module _ (b : Bundle) (bundle : IsBundle b) (clean : IsClean b) (reports : List LocalReport) (are : AreReports b reports) where
  supported : IsSupported b
  supported = (clean_is_supported b bundle).0 clean

  his_report : (g : ℕ) → IsOfRest b g → (r : LocalReport) × (reports_of reports g ≡ r ∷ []) × ((log : List LogEntry) × (entries_told r.reading ≡ Some log))
  his_report g of_rest =
      let k = supported.explained.keeps g of_rest in
      let one = one_report (reports_of reports g) k.0 (reports_tell_logs b reports are g ∙ k.1) in
      (one.0, one.1, (k.0, one.2))

  pub somebody_decided : (g : ℕ) → IsOfRest b g → (r : LocalReport) × Contains reports r × ReadsAsOwn r g
  somebody_decided g of_rest =
      let h = his_report g of_rest in
      let k = filtered reports g h.0 (subst (λ rs. Contains rs h.0) (sym h.1) (Contains_here h.0 [])) in
      (h.0, k.0, (k.1, own_told h.0.reading h.2.0 h.2.1))

  pub is_decision : (g : ℕ) → IsOfRest b g → (r : LocalReport) → Contains reports r → (d : Decision) → DecidesIn r g d → IsDecision b d
  is_decision g of_rest r h d is =
      let his = his_report g of_rest in
      let found : FoundLog = is.2.0 in
      let mine : his.0 ≡ r = only his.0 r (subst (λ rs. Contains rs r) his.1 (in_filtered (λ (x : LocalReport). nat_eq x.exhibit.general g) reports r h (eq-eqb r.exhibit.general g is.1))) in
      let told : logs_of b g ≡ Some (erased found.log.entries) = sym (reports_tell_logs b reports are g) ∙ ap sole_told his.1 ∙ ap (λ (x : LocalReport). entries_told x.reading) mine ∙ ap entries_told is.2.1 in
      let last : Contains found.log.entries (Decide d.orders d.order) = subst (λ es. Contains es (Decide d.orders d.order)) (sym is.2.2.1) (Contains-push is.2.2.0 (Decide d.orders d.order)) in
      let logged : Logged (logs_of b) g (Decided d.orders d.order) = (erased found.log.entries, told, in_mapped erase found.log.entries (Decide d.orders d.order) last) in
      (subst (IsOfRest b) (sym is.0) of_rest, subst (λ x. Logged (logs_of b) x (Decided d.orders d.order)) (sym is.0) logged)

-- one more report
pub none_more : (g : ℕ) (reports : List LocalReport) (i : ℕ) (d : LocalReport) → i < length reports → ((r : LocalReport) → Contains (take i reports) r → ReadsAsOwn r g → ⊥) → (ReadsAsOwn (get_or reports i d) g → ⊥) → (r : LocalReport) → Contains (take (i + 1) reports) r → ReadsAsOwn r g → ⊥
none_more g reports i d below before here r h is =
    elim (Contains-push_cases (take i reports) (get_or reports i d) r (subst (λ rs. Contains rs r) (take_more reports i d below) h)) [
      | inl k ↦ before r k is
      | inr e ↦ here (subst (λ (x : LocalReport). ReadsAsOwn x g) (sym e) is)
    ]

-- ---- all decisions

ascending : (ds : List Decision) → AllPairs (λ v w. v < w) (map (λ (d : Decision). d.general) ds) → AllPairs (λ (x : Decision) (y : Decision). x.general < y.general) ds
ascending [] up = λ i j d l m. absurd (omega arith)
ascending (x ∷ ds) up = AllPairs-cons (λ (y : Decision) (z : Decision). y.general < z.general) x ds
    (λ y h. AllPairs-head (λ v w. v < w) x.general (map (λ (d : Decision). d.general) ds) y.general up (in_mapped (λ (d : Decision). d.general) ds y h))
    (ascending ds (AllPairs-tail (λ v w. v < w) x.general (map (λ (d : Decision). d.general) ds) up))

pub are_decisions : (b : Bundle) → IsBundle b → IsClean b → (rest : List ℕ) → IsListOf rest (IsOfRest b) → (ds : List Decision) → map (λ (d : Decision). d.general) ds ≡ rest → All (IsDecision b) ds → AreDecisions b ds
are_decisions b bundle clean rest of_rest ds generals each = record {
  in_order = ascending ds (subst (λ gs. AllPairs (λ v w. v < w) gs) (sym generals) of_rest.ascending);
  members = λ d. (
    (λ h. All-contains (IsDecision b) ds d each h),
    (λ is.
        let m = Contains_mapped (λ (x : Decision). x.general) ds d.general (subst (λ gs. Contains gs d.general) (sym generals) ((of_rest.members d.general).1 is.0)) in
        let one = each_decided_once b ((clean_is_supported b bundle).0 clean) d.general is.0 in
        let same : m.0 ≡ d = one.1.alone m.0 m.2 (All-contains (IsDecision b) ds m.0 each m.1) ∙ sym (one.1.alone d refl is) in
        subst (λ (x : Decision). Contains ds x) same m.1),
  );
}

pub agree_on : (b : Bundle) → IsBundle b → IsClean b → HasFew b → (d : Decision) → IsDecision b d → AgreeOn b d.order
agree_on b bundle clean few d is =
    let a = clean_agrees b bundle clean few in
    let e : d.order ≡ a.0 = a.1.alone d.general is.0 d.orders d.order is.1 in
    subst (AgreeOn b) (sym e) a.1

-- ---- the rest, one by one

pub first_is_in : (xs : List ℕ) (x : ℕ) → slice_get xs 0 ≡ Some x → Contains xs x
first_is_in [] x e = absurd (cc)
first_is_in (y ∷ xs) x e = let q : y ≡ x = cc in subst (Contains (y ∷ xs)) q (Contains_here y xs)

none_is_in : (xs : List ℕ) → slice_get xs 0 ≡ None → xs ≡ []
none_is_in [] e = refl
none_is_in (y ∷ xs) e = absurd (cc)

pub somebody_is : (b : Bundle) → IsClean b → (rest : List ℕ) → IsListOf rest (IsOfRest b) → slice_get rest 0 ≡ None → ⊥
somebody_is b clean rest of_rest e =
    clean Nobody (λ g h. Contains_nil g (subst (λ xs. Contains xs g) (none_is_in rest e) ((of_rest.members g).1 h)))

pub next_is_in : (ds : List Decision) (left : List ℕ) (g : ℕ) (more rest : List ℕ) → map (λ (d : Decision). d.general) ds ++ left ≡ rest → left ≡ g ∷ more → Contains rest g
next_is_in ds left g more rest is step =
    subst (λ xs. Contains xs g) (ap (λ xs. map (λ (d : Decision). d.general) ds ++ xs) (sym step) ∙ is) (Contains-middle (map (λ (d : Decision). d.general) ds) g more)

pushed : (ds : List Decision) (d : Decision) (more : List ℕ) → map (λ (x : Decision). x.general) (ds ++ d ∷ []) ++ more ≡ map (λ (x : Decision). x.general) ds ++ d.general ∷ more
pushed [] d more = refl
pushed (x ∷ ds) d more = ap (λ gs. x.general ∷ gs) (pushed ds d more)

pub one_more_general : (ds : List Decision) (left : List ℕ) (g : ℕ) (more rest : List ℕ) (d : Decision) → map (λ (x : Decision). x.general) ds ++ left ≡ rest → left ≡ g ∷ more → d.general ≡ g → map (λ (x : Decision). x.general) (ds ++ d ∷ []) ++ more ≡ rest
one_more_general ds left g more rest d is step whose =
    pushed ds d more ∙ ap (λ x. map (λ (y : Decision). y.general) ds ++ x ∷ more) whose ∙ ap (λ xs. map (λ (y : Decision). y.general) ds ++ xs) (sym step) ∙ is

pub all_of_rest : (ds : List Decision) (left rest : List ℕ) → map (λ (x : Decision). x.general) ds ++ left ≡ rest → left ≡ [] → map (λ (x : Decision). x.general) ds ≡ rest
all_of_rest ds left rest is step = sym (append-nil (map (λ (x : Decision). x.general) ds)) ∙ ap (λ xs. map (λ (x : Decision). x.general) ds ++ xs) (sym step) ∙ is
