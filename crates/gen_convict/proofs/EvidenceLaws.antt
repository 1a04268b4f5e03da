-- The laws of reading evidence.
use Rattle.std.proofs.Common.{◌≡◌, ℕ, ◌<◌, true, eqb, List, [], ◌∷◌, ◌++◌, length, Result, Ok, refl, sym, ap, append_assoc, ◌∙◌, arith}
use Rattle.std.specs.Prelude.{nat_lt}
use Rattle.std.proofs.lemmas.Bool.{eqb-true, ltb-true, lt-ltb}
use Rattle.std.proofs.lemmas.List.{append-nil}
use Rattle.gen_types.specs.Reading.{◌>>=◌, check, map_fault}
use Rattle.gen_types.specs.Bytes.{byte_at}
use Rattle.gen_types.specs.Spelled.{Spells}
use Rattle.gen_types.proofs.ByteFields.{IsBytes, Takes-then, byte_takes}
use Rattle.gen_types.proofs.ManyFields.{Reads}
use Rattle.gen_types.proofs.Steps.{after, after_check, at_end}
use Rattle.gen_types.proofs.Wrapped.{mapped_reads}
use Rattle.gen_net.specs.Front.{AreMarks, front_spelling}
use Rattle.gen_net.specs.FrontReading.{front_at}
use Rattle.gen_net.specs.Header.{RunHeader, IsHeader}
use Rattle.gen_net.proofs.FrontLaws.{front_reads}
use Rattle.gen_log.specs.Fields.{number_spelling}
use Rattle.gen_convict.specs.declared.evidence_fault.EvidenceFault.{EvidenceFault}
use Rattle.gen_convict.specs.declared.evidence_fault.EvidenceFault.TheVariants as faults
use Rattle.gen_convict.specs.ClaimReading.{claim_at}
use Rattle.gen_convict.specs.Contradictions.{Claim}
use Rattle.gen_convict.specs.Evidence.{Accusation, IsEvidence}
use Rattle.gen_convict.specs.EvidenceReading.{IsWhole, accused_at, accusation_at, evidence_at, whole_evidence}
use Rattle.gen_convict.specs.EvidenceFields.{front_fault}
use Rattle.gen_convict.specs.EvidenceSpelling.{HeaderAndEvidence, evidence_marks, accusation_spelling, whole_spelling}
use Rattle.gen_convict.proofs.EvidenceClaims.{kind_spelling, claims_read}
use Rattle.gen_convict.proofs.EvidenceTexts.{Taken}

-- ---- the accusation

accused_takes : (n : ℕ) (bytes : List ℕ) (x : ℕ × List ℕ) → IsBytes bytes → accused_at n bytes ≡ Ok x → Taken number_spelling (λ g. g < n) bytes x
unfolding accused_at
accused_takes n bytes x fits e =
    after (byte_at faults.Truncated bytes) (λ accused. check (nat_lt accused.0 n) faults.OutOfRange >>= λ known. Ok accused) x e (λ accused r0 e0.
    after_check (nat_lt accused.0 n) faults.OutOfRange (λ known. Ok accused) x e0 (λ known e1.
    let t = byte_takes faults.Truncated bytes accused.0 accused.1 fits r0 in
    at_end {F = EvidenceFault} (Taken number_spelling (λ g. g < n) bytes) accused x e1 (t.0, ltb-true _ _ known)))

accused_again : (n g : ℕ) (rest : List ℕ) → g < n → accused_at n (g ∷ rest) ≡ Ok (g, rest)
unfolding accused_at
accused_again n g rest lt =
    let known : nat_lt g n ≡ true = lt-ltb _ _ lt in
    rw known refl

accusation_takes : (h : RunHeader) (bytes : List ℕ) (x : Accusation × List ℕ) → IsBytes bytes → accusation_at h bytes ≡ Ok x → Taken accusation_spelling (IsEvidence h) bytes x
unfolding accusation_at
accusation_takes h bytes x fits e =
    let made : ℕ → Claim × List ℕ → Result (Accusation × List ℕ) EvidenceFault = λ accused claim. Ok (record { accused = accused; claim = claim.0 }, claim.1) in
    after (accused_at h.network.generals bytes) (λ accused. claim_at h accused.0 accused.1 >>= made accused.0) x e (λ accused r0 e0.
    after (claim_at h accused.0 accused.1) (made accused.0) x e0 (λ claim r1 e1.
    let t0 = accused_takes h.network.generals bytes accused fits r0 in
    let t1 = (claims_read h accused.0).takes accused.1 claim t0.0.rest_fits r1 in
    let both = Takes-then bytes (number_spelling accused.0) accused.1 (kind_spelling claim.0) claim.1 t0.0 t1.0 in
    at_end {F = EvidenceFault} (Taken accusation_spelling (IsEvidence h) bytes) (record { accused = accused.0; claim = claim.0 }, claim.1) x e1 (both, record { known = t0.1; claim = t1.1 })))

accusation_again : (h : RunHeader) (e : Accusation) (rest : List ℕ) → IsEvidence h e → accusation_at h (accusation_spelling e ++ rest) ≡ Ok (e, rest)
unfolding accusation_at
accusation_again h e rest is = rw (accused_again h.network.generals e.accused (kind_spelling e.claim ++ rest) is.known, (claims_read h e.accused).again e.claim rest is.claim) refl

-- ---- the whole

are_marks : AreMarks evidence_marks
are_marks = record { one = omega arith; two = omega arith; different = λ e. absurd (omega (arith, e)) }

front_reads_here : Reads (λ bytes. map_fault front_fault (front_at evidence_marks bytes)) (front_spelling evidence_marks) IsHeader
front_reads_here = mapped_reads front_fault (front_at evidence_marks) (front_spelling evidence_marks) IsHeader (front_reads evidence_marks are_marks)

evidence_takes : (bytes : List ℕ) (x : HeaderAndEvidence × List ℕ) → IsBytes bytes → evidence_at bytes ≡ Ok x → Taken whole_spelling IsWhole bytes x
unfolding evidence_at
evidence_takes bytes x fits e =
    let made : RunHeader → Accusation × List ℕ → Result (HeaderAndEvidence × List ℕ) EvidenceFault = λ header evidence. Ok (record { header = header; evidence = evidence.0 }, evidence.1) in
    after (map_fault front_fault (front_at evidence_marks bytes)) (λ header. accusation_at header.0 header.1 >>= made header.0) x e (λ header r0 e0.
    after (accusation_at header.0 header.1) (made header.0) x e0 (λ evidence r1 e1.
    let t0 = front_reads_here.takes bytes header fits r0 in
    let t1 = accusation_takes header.0 header.1 evidence t0.0.rest_fits r1 in
    let both = Takes-then bytes (front_spelling evidence_marks header.0) header.1 (accusation_spelling evidence.0) evidence.1 t0.0 t1.0 in
    at_end {F = EvidenceFault} (Taken whole_spelling IsWhole bytes) (record { header = header.0; evidence = evidence.0 }, evidence.1) x e1 (both, (t0.1, t1.1))))

evidence_again : (e : HeaderAndEvidence) (rest : List ℕ) → IsWhole e → evidence_at (whole_spelling e ++ rest) ≡ Ok (e, rest)
unfolding evidence_at
evidence_again e rest is =
    let front = front_spelling evidence_marks e.header in
    let regrouped : whole_spelling e ++ rest ≡ front ++ (accusation_spelling e.evidence ++ rest) = append_assoc front (accusation_spelling e.evidence) rest in
    let header = front_reads_here.again e.header (accusation_spelling e.evidence ++ rest) is.0 in
    let evidence = accusation_again e.header e.evidence rest is.1 in
    ap evidence_at regrouped ∙ rw (header, evidence) refl

pub evidence_reads : Reads evidence_at whole_spelling IsWhole
evidence_reads = record { takes = evidence_takes; again = evidence_again }

nothing_left : (rest : List ℕ) → eqb (length rest) 0 ≡ true → rest ≡ []
nothing_left [] e = refl
nothing_left (b ∷ rest) e = absurd (omega (arith, eqb-true (length (b ∷ rest)) 0 e))

pub evidence_found : (bytes : List ℕ) (x : HeaderAndEvidence) → IsBytes bytes → whole_evidence bytes ≡ Ok x → Spells IsWhole whole_spelling bytes x
unfolding whole_evidence
evidence_found bytes x fits e =
    after (evidence_at bytes) (λ w. check (eqb (length w.1) 0) faults.LeftOver >>= λ all. Ok w.0) x e (λ w r0 e0.
    after_check (eqb (length w.1) 0) faults.LeftOver (λ all. Ok w.0) x e0 (λ all e1.
    let t = evidence_takes bytes w fits r0 in
    let none = nothing_left w.1 all in
    at_end {F = EvidenceFault} (Spells IsWhole whole_spelling bytes) w.0 x e1 (record {
      fits = t.1;
      spelled = t.0.parts ∙ ap (λ (r : List ℕ). whole_spelling w.0 ++ r) none ∙ append-nil (whole_spelling w.0);
    })))

pub evidence_only : (bytes : List ℕ) (e : HeaderAndEvidence) → Spells IsWhole whole_spelling bytes e → whole_evidence bytes ≡ Ok e
unfolding whole_evidence
evidence_only bytes e s =
    let alone : bytes ≡ whole_spelling e ++ [] = s.spelled ∙ sym (append-nil (whole_spelling e)) in
    let read : evidence_at bytes ≡ Ok (e, []) = ap evidence_at alone ∙ evidence_again e [] s.fits in
    rw read refl
