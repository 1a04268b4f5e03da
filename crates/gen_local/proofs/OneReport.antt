-- An exhibit has one report.
use Rattle.std.proofs.Common.{◌≡◌, ◌↔◌, ℕ, List, Option, Some, None, Result, Ok, Err, refl, sym, ap, ◌∙◌, subst}
use Rattle.gen_net.specs.Header.{RunHeader}
use Rattle.gen_net.specs.Departs.{DepartsAt}
use Rattle.gen_log.specs.declared.fault.LogFault.{LogFault}
use Rattle.gen_log.specs.Log.{RunLog}
use Rattle.gen_log.specs.LogReading.{log_of}
use Rattle.gen_log.specs.Verifying.{SaysItIsOf}
use Rattle.gen_local.specs.declared.reading.Reading.{Reading}
use Rattle.gen_local.specs.declared.reading.Reading.TheVariants.{Unreadable, Foreign, Own}
use Rattle.gen_local.specs.Erased.{erased}
use Rattle.gen_local.specs.SignedTexts.{head_in, text_verifies, texts_of}
use Rattle.gen_local.specs.FoundLog.{FoundLog, IsFound, first_unsigned}
use Rattle.gen_local.specs.Report.{LocalReport, IsReading, IsReport}
use Rattle.gen_local.specs.ReportLaws.{OneReport}

-- what names the same numbers is the same
one_option : (a b : Option ℕ) → ((p : ℕ) → (a ≡ Some p) → (b ≡ Some p)) → ((p : ℕ) → (b ≡ Some p) → (a ≡ Some p)) → a ≡ b
one_option None None f g = refl
one_option None (Some p) f g = g p refl
one_option (Some p) b f g = sym (f p refl)

one_departure : (D : ℕ → Type 0) (a b : Option ℕ) → ((p : ℕ) → (a ≡ Some p) ↔ D p) → ((p : ℕ) → (b ≡ Some p) ↔ D p) → a ≡ b
one_departure D a b f g = one_option a b (λ p e. (g p).1 ((f p).0 e)) (λ p e. (f p).1 ((g p).0 e))

one_found : (h : RunHeader) (general : ℕ) (a b : FoundLog) → a.log ≡ b.log → IsFound h general a → IsFound h general b → a ≡ b
one_found h general a b same f g =
    let unsigned : a.unsigned ≡ b.unsigned = f.unsigned ∙ ap (λ (l : RunLog). first_unsigned h 0 l.entries) same ∙ sym g.unsigned in
    let sealed : a.sealed ≡ b.sealed = f.sealed ∙ ap (λ (l : RunLog). text_verifies h (head_in h general l)) same ∙ sym g.sealed in
    let departure : a.departure ≡ b.departure = one_departure (DepartsAt h.network general (erased b.log.entries)) a.departure b.departure (subst (λ (l : RunLog). (p : ℕ) → (a.departure ≡ Some p) ↔ DepartsAt h.network general (erased l.entries) p) same f.departs) g.departs in
    let texts : a.texts ≡ b.texts = f.texts ∙ ap (λ (l : RunLog). texts_of h general l) same ∙ sym g.texts in
    λ i. record { log = same i; unsigned = unsigned i; sealed = sealed i; departure = departure i; texts = texts i }

one_reading : (h : RunHeader) (general : ℕ) (read : Result RunLog LogFault) (a b : Reading) → IsReading h general read a → IsReading h general read b → a ≡ b
one_reading h general (Err fault) a b f g = f ∙ sym g
one_reading h general (Ok log) (Unreadable fault) b f g = absurd f
one_reading h general (Ok log) a (Unreadable fault) f g = absurd g
one_reading h general (Ok log) Foreign Foreign f g = refl
one_reading h general (Ok log) Foreign (Own found) f g = absurd (f (subst (SaysItIsOf h general) g.0 g.1.says))
one_reading h general (Ok log) (Own found) Foreign f g = absurd (g (subst (SaysItIsOf h general) f.0 f.1.says))
one_reading h general (Ok log) (Own a) (Own b) f g = ap (λ (x : FoundLog). Own x) (one_found h general a b (f.0 ∙ sym g.0) f.1 g.1)

pub one_report : OneReport
one_report r s f g header exhibit =
    let there : IsReading s.header s.exhibit.general (log_of s.header s.exhibit.bytes) r.reading = subst (λ h. IsReading h s.exhibit.general (log_of h s.exhibit.bytes) r.reading) header (subst (λ x. IsReading r.header x.general (log_of r.header x.bytes) r.reading) exhibit f) in
    let reading = one_reading s.header s.exhibit.general (log_of s.header s.exhibit.bytes) r.reading s.reading there g in
    λ i. record { header = header i; exhibit = exhibit i; reading = reading i }
