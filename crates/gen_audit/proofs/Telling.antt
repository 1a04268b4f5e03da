-- The reports of a bundle's exhibits tell its logs.
use Rattle.std.proofs.Common.{◌≡◌, ℕ, inl, inr, List, [], ◌∷◌, map, Contains, Some, None, Result, Ok, Err, if◌then◌else◌, refl, sym, ap, ◌∙◌, subst}
use Rattle.std.specs.Bool.{nat_eq}
use Rattle.std.proofs.lemmas.Bool.{eqb-true}
use Rattle.std.proofs.lemmas.List.Elements.{All-contains}
use Rattle.gen_types.specs.Members.{bool_cases}
use Rattle.gen_types.proofs.Lists.{Contains_here, Contains_filtered}
use Rattle.gen_net.specs.Header.{RunHeader}
use Rattle.gen_log.specs.declared.fault.LogFault.{LogFault}
use Rattle.gen_log.specs.Log.{RunLog}
use Rattle.gen_log.specs.LogReading.{log_of}
use Rattle.gen_log.specs.Verifying.{says_it_is_of, SaysItIsOf}
use Rattle.gen_local.specs.declared.reading.Reading.{Reading}
use Rattle.gen_local.specs.declared.reading.Reading.TheVariants.{Unreadable, Foreign, Own}
use Rattle.gen_local.specs.Erased.{erased}
use Rattle.gen_local.specs.Report.{LocalReport, IsReading, IsReport, AreReportsOf}
use Rattle.gen_match.specs.Reports.{entries_told, sole_told, reports_of}
use Rattle.gen_audit.specs.Bundle.{Bundle, exhibits_of, counted, sole_log}
use Rattle.gen_audit.specs.Telling.{AreReports, ReportsTellLogs}
use Rattle.gen_audit.proofs.Supporting.{own_of, own_is}

-- what a reading tells is what counts
told_is : (h : RunHeader) (g : ℕ) (read : Result RunLog LogFault) (reading : Reading) → IsReading h g read reading → entries_told reading ≡ counted h g read
told_is h g (Err fault) reading is = ap entries_told is
told_is h g (Ok log) (Unreadable fault) is = absurd is
told_is h g (Ok log) Foreign is = elim (bool_cases (says_it_is_of h g log)) [
  | inl says ↦ absurd (is (own_of h g log says))
  | inr other ↦ sym (ap (λ t. if t then Some (erased log.entries) else None) other)
]
told_is h g (Ok log) (Own found) is =
    let says : SaysItIsOf h g log = subst (λ l. SaysItIsOf h g l) is.0 is.1.says in
    ap (λ (l : RunLog). Some (erased l.entries)) is.0 ∙ sym (ap (λ t. if t then Some (erased log.entries) else None) (own_is h g log says))

-- the reports that name a general are of his exhibits
of_his : (g : ℕ) (rs : List LocalReport) → map (λ (r : LocalReport). r.exhibit) (reports_of rs g) ≡ exhibits_of (map (λ (r : LocalReport). r.exhibit) rs) g
of_his g [] = refl
of_his g (r ∷ rs) = elim (bool_cases (nat_eq r.exhibit.general g)) [
  | inl e ↦ rw e (ap (λ xs. r.exhibit ∷ xs) (of_his g rs))
  | inr e ↦ rw e (of_his g rs)
]

sole : (h : RunHeader) (g : ℕ) (rs : List LocalReport) → ((r : LocalReport) → Contains rs r → entries_told r.reading ≡ counted h g (log_of h r.exhibit.bytes)) → sole_told rs ≡ sole_log h g (map (λ (r : LocalReport). r.exhibit) rs)
sole h g [] each = refl
sole h g (r ∷ []) each = each r (Contains_here r [])
sole h g (r ∷ s ∷ more) each = refl

pub reports_tell_logs : ReportsTellLogs
reports_tell_logs b reports are g =
    sole b.header g (reports_of reports g) (λ r h.
    let k = Contains_filtered (λ (x : LocalReport). nat_eq x.exhibit.general g) reports r h in
    let his : r.exhibit.general ≡ g = eqb-true r.exhibit.general g k.1 in
    let is : IsReading r.header r.exhibit.general (log_of r.header r.exhibit.bytes) r.reading = are.each r k.0 in
    let of_bundle : IsReading b.header r.exhibit.general (log_of b.header r.exhibit.bytes) r.reading = subst (λ x. IsReading x r.exhibit.general (log_of x r.exhibit.bytes) r.reading) (are.header r k.0) is in
    told_is b.header g (log_of b.header r.exhibit.bytes) r.reading (subst (λ x. IsReading b.header x (log_of b.header r.exhibit.bytes) r.reading) his of_bundle))
    ∙ ap (sole_log b.header g) (of_his g reports ∙ ap (λ xs. exhibits_of xs g) are.exhibits)

-- reports of a bundle's exhibits, under its header
pub are_reports : (b : Bundle) (reports : List LocalReport) → AreReportsOf b.header b.exhibits reports → AreReports b reports
are_reports b reports are = record {
  exhibits = are.exhibits;
  header = λ r inside. All-contains (λ (s : LocalReport). s.header ≡ b.header) reports r are.header inside;
  each = λ r inside. All-contains IsReport reports r are.each inside;
}
