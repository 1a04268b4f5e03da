-- Opened exhibits, their logs, and reports of them.
use Rattle.std.proofs.Common.{◌≡◌, ◌<◌, ◌≤◌, ◌+◌, ℕ, All, List, [], ◌∷◌, ◌++◌, length, slice_index_or, take, append-nil, append_assoc, arith, ap, ◌∙◌, sym, subst}
use Rattle.std.proofs.lemmas.Grind.{flat_map-append}
use Rattle.std.proofs.lemmas.List.{map_push, length-append, take_more}
use Rattle.std.proofs.lemmas.List.Concat.{flat_map-cons}
use Rattle.std.proofs.lemmas.List.Elements.{All-append, All-cons, All-head, All-nil, All-push, All-tail}
use Rattle.gen_net.specs.Header.{RunHeader}
use Rattle.gen_log.specs.Texts.{GeneralsLog}
use Rattle.gen_log.specs.Writing.{LogBytes}
use Rattle.gen_local.specs.declared.opening.Opened.{Opened}
use Rattle.gen_local.specs.declared.opening.Opening.{Opening}
use Rattle.gen_local.specs.declared.opening.Opening.TheVariants.{Unreadable, Foreign, Own}
use Rattle.gen_local.specs.Endings.{AreOfNetwork}
use Rattle.gen_local.specs.Opened.{IsOpened, IsOpening, exhibits_of, logs_in, logs_of, own_logs}
use Rattle.gen_local.specs.Report.{LocalReport, IsReport, AreReportsOf}
use Rattle.gen_local.proofs.Starters.{start_known}

-- one report more
pub one_report_more : (h : RunHeader) (before : List LogBytes) (reports : List LocalReport) (r : LocalReport) (x : LogBytes) → AreReportsOf h before reports → r.header ≡ h → r.exhibit ≡ x → IsReport r → AreReportsOf h (before ++ x ∷ []) (reports ++ r ∷ [])
one_report_more h before reports r x are header exhibit is = record {
  exhibits = map_push (λ (s : LocalReport). s.exhibit) reports r ∙ ap (λ (xs : List LogBytes). xs ++ r.exhibit ∷ []) are.exhibits ∙ ap (λ (y : LogBytes). before ++ y ∷ []) exhibit;
  header = All-push (λ (s : LocalReport). s.header ≡ h) reports r are.header header;
  each = All-push IsReport reports r are.each is;
}

-- no more logs than exhibits
one_at_most : (general : ℕ) (opening : Opening) → length (own_logs general opening) ≤ 1
one_at_most general (Unreadable fault) = omega arith
one_at_most general Foreign = omega arith
one_at_most general (Own log) = omega arith

pub few_logs : (opened : List Opened) → length (logs_in opened) ≤ length opened
few_logs [] = omega arith
few_logs (o ∷ opened) = rw (flat_map-cons, length-append) (omega (arith, one_at_most o.exhibit.general o.opening, few_logs opened))

-- the generals of the logs are of the network
abbrev IsOfNetwork : RunHeader → GeneralsLog → Type 0
IsOfNetwork h x = x.general < h.network.generals

one_of_network : (h : RunHeader) (general : ℕ) (bytes : List ℕ) (opening : Opening) → IsOpening h general bytes opening → AreOfNetwork h (own_logs general opening)
one_of_network h general bytes (Unreadable fault) is = All-nil (IsOfNetwork h)
one_of_network h general bytes Foreign is = All-nil (IsOfNetwork h)
one_of_network h general bytes (Own log) is = All-cons (IsOfNetwork h) (record { general = general; log = log }) [] (start_known h log general is.fits_run is.says.starts) (All-nil (IsOfNetwork h))

pub of_network : (h : RunHeader) (opened : List Opened) → All (IsOpened h) opened → AreOfNetwork h (logs_in opened)
of_network h [] are = All-nil (IsOfNetwork h)
of_network h (o ∷ opened) are =
    let here = one_of_network h o.exhibit.general o.exhibit.bytes o.opening (All-head (IsOpened h) o opened are) in
    All-append (IsOfNetwork h) (logs_of o) (logs_in opened) here (of_network h opened (All-tail (IsOpened h) o opened are))

-- reports were put behind the old ones: with what is left they are of all these exhibits
abbrev pub HavePut : RunHeader → List LogBytes → List LocalReport → List Opened → List LocalReport → Type 0
HavePut h all old rest reports =
    (before : List LogBytes) → AreReportsOf h before old
    → (put : List LogBytes) × (put ++ exhibits_of rest ≡ all) × AreReportsOf h (before ++ put) reports

-- none yet; one more; and all
pub none_put : (h : RunHeader) (all : List LogBytes) (old : List LocalReport) (rest : List Opened) → exhibits_of rest ≡ all → HavePut h all old rest old
none_put h all old rest is before are = ([], is, subst (λ (xs : List LogBytes). AreReportsOf h xs old) (sym (append-nil before)) are)

pub one_put : (h : RunHeader) (all : List LogBytes) (old reports : List LocalReport) (rest later : List Opened) (o : Opened) (r : LocalReport) → rest ≡ o ∷ later
    → r.header ≡ h → r.exhibit ≡ o.exhibit → IsReport r → HavePut h all old rest reports → HavePut h all old later (reports ++ r ∷ [])
one_put h all old reports rest later o r split header exhibit is put before are =
    let p = put before are in
    let shown : (p.0 ++ o.exhibit ∷ []) ++ exhibits_of later ≡ all = append_assoc p.0 (o.exhibit ∷ []) (exhibits_of later) ∙ ap (λ (xs : List Opened). p.0 ++ exhibits_of xs) (sym split) ∙ p.1 in
    let more = one_report_more h (before ++ p.0) reports r o.exhibit p.2 header exhibit is in
    (p.0 ++ o.exhibit ∷ [], shown, subst (λ (xs : List LogBytes). AreReportsOf h xs (reports ++ r ∷ [])) (append_assoc before p.0 (o.exhibit ∷ [])) more)

pub all_put : (h : RunHeader) (all : List LogBytes) (old reports : List LocalReport) (rest : List Opened) → rest ≡ [] → HavePut h all old rest reports
    → (before : List LogBytes) → AreReportsOf h before old → AreReportsOf h (before ++ all) reports
all_put h all old reports rest none put before are =
    let p = put before are in
    let whole : p.0 ≡ all = sym (append-nil p.0) ∙ ap (λ (xs : List Opened). p.0 ++ exhibits_of xs) (sym none) ∙ p.1 in
    subst (λ (xs : List LogBytes). AreReportsOf h (before ++ xs) reports) whole p.2

-- one exhibit more is opened
pub opened_more : (exhibits : List LogBytes) (opened : List Opened) (i : ℕ) (o : Opened) (x : LogBytes) → i < length exhibits → x ≡ slice_index_or exhibits i x → o.exhibit ≡ x
    → exhibits_of opened ≡ take i exhibits → exhibits_of (opened ++ o ∷ []) ≡ take (i + 1) exhibits
opened_more exhibits opened i o x below is same before =
    map_push (λ (p : Opened). p.exhibit) opened o
    ∙ ap (λ (xs : List LogBytes). xs ++ o.exhibit ∷ []) before
    ∙ ap (λ (y : LogBytes). take i exhibits ++ y ∷ []) (same ∙ is)
    ∙ sym (take_more exhibits i x below)

-- the logs of one opened exhibit more
pub texts_more : (opened : List Opened) (texts : List GeneralsLog) (i : ℕ) (o : Opened) → i < length opened → o ≡ slice_index_or opened i o
    → texts ≡ logs_in (take i opened) → texts ++ logs_of o ≡ logs_in (take (i + 1) opened)
texts_more opened texts i o below is before =
    ap (λ (xs : List GeneralsLog). xs ++ logs_of o) before
    ∙ ap (λ (xs : List GeneralsLog). logs_in (take i opened) ++ xs) (sym (append-nil (logs_of o)))
    ∙ sym (flat_map-append logs_of (take i opened) (o ∷ []))
    ∙ ap logs_in (ap (λ (p : Opened). take i opened ++ p ∷ []) is ∙ sym (take_more opened i o below))
