-- Claims in evidence: what was read is what stood there, and what was written is read again.
use Rattle.std.proofs.Common.{◌≡◌, ℕ, ◌^◌, ◌<◌, true, eqb, List, [], ◌∷◌, ◌++◌, Result, Ok, refl, sym, ap, subst, append_assoc, ◌∙◌}
use Rattle.std.specs.Int.{w32, to_be_bytes}
use Rattle.std.specs.List.{flat_map}
use Rattle.std.proofs.lemmas.Bool.{eqb-true}
use Rattle.gen_types.specs.Reading.{◌>>=◌, check, map_fault}
use Rattle.gen_types.specs.Bytes.{byte_at, number_at}
use Rattle.gen_types.proofs.ByteFields.{IsBytes, Takes, Takes-then, byte_takes, number_takes, number_again, wide32}
use Rattle.gen_types.proofs.ManyFields.{Reads}
use Rattle.gen_types.proofs.Steps.{after, after_check, at_end, mapped_ok}
use Rattle.gen_net.specs.declared.fault.HeaderFault.TheVariants as rules
use Rattle.gen_net.specs.declared.marks.FrontFault.{FrontFault}
use Rattle.gen_net.specs.declared.marks.FrontFault.TheVariants as fronts
use Rattle.gen_net.specs.declared.version.Version.{Version}
use Rattle.gen_net.specs.declared.version.Version.TheVariants.{Two}
use Rattle.gen_net.specs.FrontReading.{header_fault, header_behind}
use Rattle.gen_net.specs.Header.{RunHeader, IsHeader, header_spelling}
use Rattle.gen_net.specs.HeaderReading.{header_at}
use Rattle.gen_net.specs.NetworkSpelling.{network_bytes}
use Rattle.gen_net.specs.Version.{version_two, version_bytes}
use Rattle.gen_net.proofs.HeaderLaws.{header_reads}
use Rattle.gen_chain.specs.declared.statements.Statement.{Statement}
use Rattle.gen_local.specs.declared.texts.SignedText.{SignedText}
use Rattle.gen_local.specs.declared.texts.Text.TheVariants.{OfStatement}
use Rattle.gen_convict.specs.declared.evidence_fault.EvidenceFault.{EvidenceFault}
use Rattle.gen_convict.specs.declared.evidence_fault.EvidenceFault.TheVariants as faults
use Rattle.gen_convict.specs.ClaimReading.{two_texts_at, command_at, two_orders_at, missing_statement_at, missing_at, departing_at, across_at, claim_of_kind, claim_at}
use Rattle.gen_convict.specs.Contradictions.{Claim, TwoTexts, TwoOrders, MissingFromLog, DepartingLog, AcrossRuns}
use Rattle.gen_convict.specs.Evidence.{IsSignature, IsStatementOf, IsClaimFor}
use Rattle.gen_convict.specs.EvidenceFields.{order_at, statement_at, signature_at, signed_at, log_at, front_fault, second_header_at}
use Rattle.gen_convict.specs.EvidenceSpelling.{statement_kind, text_spelling, statement_spelling, signed_spelling, shown_spelling, claim_spelling}
use Rattle.gen_convict.specs.declared.run_texts.RunText.{RunText}
use Rattle.gen_convict.specs.First.{kind_of}
use Rattle.gen_convict.specs.SharedLeaves.{is_two, share_leaves}
use Rattle.gen_convict.proofs.SharingTests.{tests_sharing}
use Rattle.gen_convict.proofs.EvidenceTexts.{Taken, orders_read, statements_read, cases, signature_takes, signature_again, signed_read, logs_read}

-- a claim that was read behind the byte of its kind
record ClaimTaken (h : RunHeader) (accused kind : ℕ) (bytes : List ℕ) (x : Claim × List ℕ) : Type 0 where
  kind_is : kind_of x.0 ≡ kind
  taken : Takes bytes (claim_spelling x.0) x.1
  fits : IsClaimFor h accused x.0

-- ---- two texts

two_texts_take : (h : RunHeader) (accused : ℕ) (bytes : List ℕ) (x : Claim × List ℕ) → IsBytes bytes → two_texts_at h accused bytes ≡ Ok x → ClaimTaken h accused 1 bytes x
unfolding two_texts_at
two_texts_take h accused bytes x fits e =
    let made : SignedText → SignedText × List ℕ → Result (Claim × List ℕ) EvidenceFault = λ first second. Ok (TwoTexts first second.0, second.1) in
    after (signed_at h accused bytes) (λ first. signed_at h accused first.1 >>= made first.0) x e (λ first r0 e0.
    after (signed_at h accused first.1) (made first.0) x e0 (λ second r1 e1.
    let t0 = (signed_read h accused).takes bytes first fits r0 in
    let t1 = (signed_read h accused).takes first.1 second t0.0.rest_fits r1 in
    let both = Takes-then bytes (signed_spelling first.0) first.1 (signed_spelling second.0) second.1 t0.0 t1.0 in
    at_end {F = EvidenceFault} (ClaimTaken h accused 1 bytes) (TwoTexts first.0 second.0, second.1) x e1 (record { kind_is = refl; taken = both; fits = (t0.1, t1.1) })))

two_texts_again : (h : RunHeader) (accused : ℕ) (first second : SignedText) (rest : List ℕ) → IsClaimFor h accused (TwoTexts first second) → two_texts_at h accused (claim_spelling (TwoTexts first second) ++ rest) ≡ Ok (TwoTexts first second, rest)
unfolding two_texts_at
two_texts_again h accused first second rest is =
    let regrouped : claim_spelling (TwoTexts first second) ++ rest ≡ signed_spelling first ++ (signed_spelling second ++ rest) = append_assoc (signed_spelling first) (signed_spelling second) rest in
    let one = (signed_read h accused).again first (signed_spelling second ++ rest) is.0 in
    let other = (signed_read h accused).again second rest is.1 in
    ap (two_texts_at h accused) regrouped ∙ rw (one, other) refl

-- ---- two orders

abbrev command_spelling : ℕ × List ℕ → List ℕ
command_spelling c = c.0 ∷ c.1

abbrev IsCommand : RunHeader → ℕ × List ℕ → Type 0
IsCommand h c = (c.0 < h.network.orders) × IsSignature h c.1

command_takes : (h : RunHeader) (bytes : List ℕ) (x : (ℕ × List ℕ) × List ℕ) → IsBytes bytes → command_at h bytes ≡ Ok x → Taken command_spelling (IsCommand h) bytes x
unfolding command_at
command_takes h bytes x fits e =
    let made : ℕ → List ℕ × List ℕ → Result ((ℕ × List ℕ) × List ℕ) EvidenceFault = λ order signature. Ok ((order, signature.0), signature.1) in
    after (order_at h.network bytes) (λ order. signature_at h order.1 >>= made order.0) x e (λ order r0 e0.
    after (signature_at h order.1) (made order.0) x e0 (λ signature r1 e1.
    let t0 = (orders_read h.network).takes bytes order fits r0 in
    let t1 = signature_takes h order.1 signature t0.0.rest_fits r1 in
    let both = Takes-then bytes (order.0 ∷ []) order.1 signature.0 signature.1 t0.0 t1.0 in
    at_end {F = EvidenceFault} (Taken command_spelling (IsCommand h) bytes) ((order.0, signature.0), signature.1) x e1 (both, (t0.1, t1.1))))

command_again : (h : RunHeader) (c : ℕ × List ℕ) (rest : List ℕ) → IsCommand h c → command_at h (command_spelling c ++ rest) ≡ Ok (c, rest)
unfolding command_at
command_again h c rest is = rw ((orders_read h.network).again c.0 (c.1 ++ rest) is.0, signature_again h c.1 rest is.1) refl

two_orders_take : (h : RunHeader) (accused : ℕ) (bytes : List ℕ) (x : Claim × List ℕ) → IsBytes bytes → two_orders_at h bytes ≡ Ok x → ClaimTaken h accused 2 bytes x
unfolding two_orders_at
two_orders_take h accused bytes x fits e =
    let made : ℕ × List ℕ → (ℕ × List ℕ) × List ℕ → Result (Claim × List ℕ) EvidenceFault = λ first second. Ok (TwoOrders first.0 first.1 second.0.0 second.0.1, second.1) in
    after (command_at h bytes) (λ first. command_at h first.1 >>= made first.0) x e (λ first r0 e0.
    after (command_at h first.1) (made first.0) x e0 (λ second r1 e1.
    let t0 = command_takes h bytes first fits r0 in
    let t1 = command_takes h first.1 second t0.0.rest_fits r1 in
    let both = Takes-then bytes (command_spelling first.0) first.1 (command_spelling second.0) second.1 t0.0 t1.0 in
    at_end {F = EvidenceFault} (ClaimTaken h accused 2 bytes) (TwoOrders first.0.0 first.0.1 second.0.0 second.0.1, second.1) x e1 (record { kind_is = refl; taken = both; fits = (t0.1.0, t0.1.1, t1.1.0, t1.1.1) })))

two_orders_again : (h : RunHeader) (accused v : ℕ) (a : List ℕ) (w : ℕ) (b rest : List ℕ) → IsClaimFor h accused (TwoOrders v a w b) → two_orders_at h (claim_spelling (TwoOrders v a w b) ++ rest) ≡ Ok (TwoOrders v a w b, rest)
unfolding two_orders_at
two_orders_again h accused v a w b rest is =
    let regrouped : claim_spelling (TwoOrders v a w b) ++ rest ≡ command_spelling (v, a) ++ (command_spelling (w, b) ++ rest) = append_assoc (command_spelling (v, a)) (command_spelling (w, b)) rest in
    let one = command_again h (v, a) (command_spelling (w, b) ++ rest) (is.0, is.1) in
    let other = command_again h (w, b) rest (is.2, is.3) in
    ap (two_orders_at h) regrouped ∙ rw (one, other) refl

-- ---- a log and a statement

abbrev missing_spelling : Statement → List ℕ
missing_spelling s = text_spelling (OfStatement s)

missing_statement_takes : (h : RunHeader) (bytes : List ℕ) (x : Statement × List ℕ) → IsBytes bytes → missing_statement_at h.network bytes ≡ Ok x → Taken missing_spelling (IsStatementOf h) bytes x
unfolding missing_statement_at
missing_statement_takes h bytes x fits e =
    after (byte_at faults.Truncated bytes) (λ kind. check (eqb kind.0 statement_kind) faults.OutOfRange >>= λ known. statement_at h.network kind.1) x e (λ kind r0 e0.
    after_check (eqb kind.0 statement_kind) faults.OutOfRange (λ known. statement_at h.network kind.1) x e0 (λ known e1.
    let t0 = byte_takes faults.Truncated bytes kind.0 kind.1 fits r0 in
    let t1 = (statements_read h).takes kind.1 x t0.0.rest_fits e1 in
    let both = Takes-then bytes (kind.0 ∷ []) kind.1 (statement_spelling x.0) x.1 t0.0 t1.0 in
    (subst (λ (k : ℕ). Takes bytes (k ∷ statement_spelling x.0) x.1) (eqb-true kind.0 statement_kind known) both, t1.1)))

missing_statement_again : (h : RunHeader) (s : Statement) (rest : List ℕ) → IsStatementOf h s → missing_statement_at h.network (missing_spelling s ++ rest) ≡ Ok (s, rest)
unfolding missing_statement_at
missing_statement_again h s rest is = (statements_read h).again s rest is

missing_takes : (h : RunHeader) (accused : ℕ) (bytes : List ℕ) (x : Claim × List ℕ) → IsBytes bytes → missing_at h bytes ≡ Ok x → ClaimTaken h accused 3 bytes x
unfolding missing_at
missing_takes h accused bytes x fits e =
    let made : List ℕ → Statement → List ℕ × List ℕ → Result (Claim × List ℕ) EvidenceFault = λ log statement signature. Ok (MissingFromLog log statement signature.0, signature.1) in
    after (log_at bytes) (λ log. missing_statement_at h.network log.1 >>= λ statement. signature_at h statement.1 >>= made log.0 statement.0) x e (λ log r0 e0.
    after (missing_statement_at h.network log.1) (λ statement. signature_at h statement.1 >>= made log.0 statement.0) x e0 (λ statement r1 e1.
    after (signature_at h statement.1) (made log.0 statement.0) x e1 (λ signature r2 e2.
    let t0 = logs_read.takes bytes log fits r0 in
    let t1 = missing_statement_takes h log.1 statement t0.0.rest_fits r1 in
    let t2 = signature_takes h statement.1 signature t1.0.rest_fits r2 in
    let t12 = Takes-then log.1 (missing_spelling statement.0) statement.1 signature.0 signature.1 t1.0 t2.0 in
    let all = Takes-then bytes (shown_spelling log.0) log.1 (missing_spelling statement.0 ++ signature.0) signature.1 t0.0 t12 in
    at_end {F = EvidenceFault} (ClaimTaken h accused 3 bytes) (MissingFromLog log.0 statement.0 signature.0, signature.1) x e2 (record { kind_is = refl; taken = all; fits = (t0.1, t1.1, t2.1) }))))

missing_again : (h : RunHeader) (accused : ℕ) (log : List ℕ) (s : Statement) (signature rest : List ℕ) → IsClaimFor h accused (MissingFromLog log s signature) → missing_at h (claim_spelling (MissingFromLog log s signature) ++ rest) ≡ Ok (MissingFromLog log s signature, rest)
unfolding missing_at
missing_again h accused log s signature rest is =
    let inner : (missing_spelling s ++ signature) ++ rest ≡ missing_spelling s ++ (signature ++ rest) = append_assoc (missing_spelling s) signature rest in
    let outer : (shown_spelling log ++ (missing_spelling s ++ signature)) ++ rest ≡ shown_spelling log ++ (missing_spelling s ++ (signature ++ rest)) = append_assoc (shown_spelling log) (missing_spelling s ++ signature) rest ∙ ap (λ (t : List ℕ). shown_spelling log ++ t) inner in
    let first = logs_read.again log (missing_spelling s ++ (signature ++ rest)) is.0 in
    let second = missing_statement_again h s (signature ++ rest) is.1 in
    let third = signature_again h signature rest is.2 in
    ap (missing_at h) outer ∙ rw (first, second, third) refl

-- ---- a log and an entry

departing_takes : (h : RunHeader) (accused : ℕ) (bytes : List ℕ) (x : Claim × List ℕ) → IsBytes bytes → departing_at bytes ≡ Ok x → ClaimTaken h accused 4 bytes x
unfolding departing_at
departing_takes h accused bytes x fits e =
    let made : List ℕ → ℕ × List ℕ → Result (Claim × List ℕ) EvidenceFault = λ log entry. Ok (DepartingLog log entry.0, entry.1) in
    after (log_at bytes) (λ log. number_at faults.Truncated w32 log.1 >>= made log.0) x e (λ log r0 e0.
    after (number_at faults.Truncated w32 log.1) (made log.0) x e0 (λ entry r1 e1.
    let t0 = logs_read.takes bytes log fits r0 in
    let t1 = number_takes faults.Truncated w32 (2 ^ 32) wide32 log.1 entry.0 entry.1 t0.0.rest_fits r1 in
    let both = Takes-then bytes (shown_spelling log.0) log.1 (to_be_bytes w32 entry.0) entry.1 t0.0 t1.0 in
    at_end {F = EvidenceFault} (ClaimTaken h accused 4 bytes) (DepartingLog log.0 entry.0, entry.1) x e1 (record { kind_is = refl; taken = both; fits = (t0.1, t1.1) })))

departing_again : (h : RunHeader) (accused : ℕ) (log : List ℕ) (p : ℕ) (rest : List ℕ) → IsClaimFor h accused (DepartingLog log p) → departing_at (claim_spelling (DepartingLog log p) ++ rest) ≡ Ok (DepartingLog log p, rest)
unfolding departing_at
departing_again h accused log p rest is =
    let regrouped : claim_spelling (DepartingLog log p) ++ rest ≡ shown_spelling log ++ (to_be_bytes w32 p ++ rest) = append_assoc (shown_spelling log) (to_be_bytes w32 p) rest in
    let first = logs_read.again log (to_be_bytes w32 p ++ rest) is.0 in
    let second = number_again {F = EvidenceFault} faults.Truncated w32 (2 ^ 32) wide32 p rest is.1 in
    ap departing_at regrouped ∙ rw (first, second) refl

-- ---- a header of another run, and two texts

second_takes : (bytes : List ℕ) (x : RunHeader × List ℕ) → IsBytes bytes → second_header_at bytes ≡ Ok x → Taken header_spelling IsHeader bytes x
unfolding second_header_at header_behind
second_takes bytes x fits e =
    after (byte_at fronts.Truncated bytes) (λ number. check (eqb number.0 version_two) (fronts.BadHeader rules.UnknownVersion) >>= λ known. map_fault header_fault (header_at bytes)) x (mapped_ok front_fault (header_behind version_two bytes) x e) (λ number r0 e0.
    after_check (eqb number.0 version_two) (fronts.BadHeader rules.UnknownVersion) (λ known. map_fault header_fault (header_at bytes)) x e0 (λ known e1.
    header_reads.takes bytes x fits (mapped_ok header_fault (header_at bytes) x e1)))

second_again : (k : RunHeader) (slot : ℕ) (rest : List ℕ) → IsHeader k → k.version ≡ Two slot → second_header_at (header_spelling k ++ rest) ≡ Ok (k, rest)
unfolding second_header_at header_behind
second_again k slot rest is two =
    let tail : List ℕ = (slot ∷ (network_bytes k.network ++ flat_map (λ (root : List ℕ). root) k.roots)) ++ rest in
    let first : header_spelling k ++ rest ≡ version_two ∷ tail = ap (λ (v : Version). (version_bytes v ++ (network_bytes k.network ++ flat_map (λ (root : List ℕ). root) k.roots)) ++ rest) two in
    let byte : byte_at {F = FrontFault} fronts.Truncated (header_spelling k ++ rest) ≡ Ok (version_two, tail) = ap (byte_at fronts.Truncated) first in
    let read = header_reads.again k rest is in
    rw (byte, read) refl

two_told : (v : Version) (slot : ℕ) → v ≡ Two slot → is_two v ≡ true
two_told v slot e = ap is_two e

across_takes : (h : RunHeader) (accused : ℕ) (bytes : List ℕ) (x : Claim × List ℕ) → IsBytes bytes → across_at h accused bytes ≡ Ok x → ClaimTaken h accused 5 bytes x
unfolding across_at
across_takes h accused bytes x fits e =
    let made : RunHeader → SignedText → SignedText × List ℕ → Result (Claim × List ℕ) EvidenceFault = λ other first second. Ok (AcrossRuns (record { header = h; text = first }) (record { header = other; text = second.0 }), second.1) in
    after_check (is_two h.version) faults.OutOfRange (λ lawful. second_header_at bytes >>= λ other. check (share_leaves h other.0) faults.OtherLeaves >>= λ shared. signed_at h accused other.1 >>= λ first. signed_at other.0 accused first.1 >>= made other.0 first.0) x e (λ lawful e0.
    after (second_header_at bytes) (λ other. check (share_leaves h other.0) faults.OtherLeaves >>= λ shared. signed_at h accused other.1 >>= λ first. signed_at other.0 accused first.1 >>= made other.0 first.0) x e0 (λ other r1 e1.
    after_check (share_leaves h other.0) faults.OtherLeaves (λ shared. signed_at h accused other.1 >>= λ first. signed_at other.0 accused first.1 >>= made other.0 first.0) x e1 (λ shared e2.
    after (signed_at h accused other.1) (λ first. signed_at other.0 accused first.1 >>= made other.0 first.0) x e2 (λ first r3 e3.
    after (signed_at other.0 accused first.1) (made other.0 first.0) x e3 (λ second r4 e4.
    let t0 = second_takes bytes other fits r1 in
    let t1 = (signed_read h accused).takes other.1 first t0.0.rest_fits r3 in
    let t2 = (signed_read other.0 accused).takes first.1 second t1.0.rest_fits r4 in
    let both = Takes-then other.1 (signed_spelling first.0) first.1 (signed_spelling second.0) second.1 t1.0 t2.0 in
    let all = Takes-then bytes (header_spelling other.0) other.1 (signed_spelling first.0 ++ signed_spelling second.0) second.1 t0.0 both in
    at_end {F = EvidenceFault} (ClaimTaken h accused 5 bytes) (AcrossRuns (record { header = h; text = first.0 }) (record { header = other.0; text = second.0 }), second.1) x e4
    (record { kind_is = refl; taken = all; fits = record { of_first = refl; other = t0.1; runs = (tests_sharing h other.0).0 shared; one = t1.1; two = t2.1 } }))))))

across_again : (h : RunHeader) (accused : ℕ) (x y : RunText) (rest : List ℕ) → IsClaimFor h accused (AcrossRuns x y) → across_at h accused (claim_spelling (AcrossRuns x y) ++ rest) ≡ Ok (AcrossRuns x y, rest)
unfolding across_at
across_again h accused x y rest is =
    let inner : (signed_spelling x.text ++ signed_spelling y.text) ++ rest ≡ signed_spelling x.text ++ (signed_spelling y.text ++ rest) = append_assoc (signed_spelling x.text) (signed_spelling y.text) rest in
    let outer : claim_spelling (AcrossRuns x y) ++ rest ≡ header_spelling y.header ++ (signed_spelling x.text ++ (signed_spelling y.text ++ rest)) = append_assoc (header_spelling y.header) (signed_spelling x.text ++ signed_spelling y.text) rest ∙ ap (λ (t : List ℕ). header_spelling y.header ++ t) inner in
    let two = two_told h.version is.runs.slot is.runs.one in
    let header = second_again y.header is.runs.slot (signed_spelling x.text ++ (signed_spelling y.text ++ rest)) is.other is.runs.other in
    let shared = (tests_sharing h y.header).1 is.runs in
    let first = (signed_read h accused).again x.text (signed_spelling y.text ++ rest) is.one in
    let second = (signed_read y.header accused).again y.text rest is.two in
    let read : across_at h accused (header_spelling y.header ++ (signed_spelling x.text ++ (signed_spelling y.text ++ rest))) ≡ Ok (AcrossRuns (record { header = h; text = x.text }) y, rest) = rw (two, header, shared, first, second) refl in
    ap (across_at h accused) outer ∙ read ∙ ap (λ (k : RunHeader). Ok (AcrossRuns (record { header = k; text = x.text }) y, rest)) (sym is.of_first)

-- ---- the kind

of_kind : (h : RunHeader) (accused kind known : ℕ) (bytes : List ℕ) (x : Claim × List ℕ) → eqb kind known ≡ true → ClaimTaken h accused known bytes x → ClaimTaken h accused kind bytes x
of_kind h accused kind known bytes x e t = subst (λ (k : ℕ). ClaimTaken h accused k bytes x) (sym (eqb-true kind known e)) t

claim_of_kind_takes : (h : RunHeader) (accused kind : ℕ) (bytes : List ℕ) (x : Claim × List ℕ) → IsBytes bytes → claim_of_kind h accused kind bytes ≡ Ok x → ClaimTaken h accused kind bytes x
unfolding claim_of_kind
claim_of_kind_takes h accused kind bytes x fits e =
    cases (eqb kind 1) (two_texts_at h accused bytes) _ x e (λ k r. of_kind h accused kind 1 bytes x k (two_texts_take h accused bytes x fits r)) (λ k0 e0.
    cases (eqb kind 2) (two_orders_at h bytes) _ x e0 (λ k r. of_kind h accused kind 2 bytes x k (two_orders_take h accused bytes x fits r)) (λ k1 e1.
    cases (eqb kind 3) (missing_at h bytes) _ x e1 (λ k r. of_kind h accused kind 3 bytes x k (missing_takes h accused bytes x fits r)) (λ k2 e2.
    cases (eqb kind 4) (departing_at bytes) _ x e2 (λ k r. of_kind h accused kind 4 bytes x k (departing_takes h accused bytes x fits r)) (λ k3 e3.
    cases (eqb kind 5) (across_at h accused bytes) _ x e3 (λ k r. of_kind h accused kind 5 bytes x k (across_takes h accused bytes x fits r)) (λ k4 e4. absurd cc)))))

-- a claim behind its kind
abbrev pub kind_spelling : Claim → List ℕ
kind_spelling claim = kind_of claim ∷ claim_spelling claim

claim_takes : (h : RunHeader) (accused : ℕ) (bytes : List ℕ) (x : Claim × List ℕ) → IsBytes bytes → claim_at h accused bytes ≡ Ok x → Taken kind_spelling (IsClaimFor h accused) bytes x
unfolding claim_at
claim_takes h accused bytes x fits e =
    after (byte_at faults.Truncated bytes) (λ kind. claim_of_kind h accused kind.0 kind.1) x e (λ kind r0 e0.
    let t0 = byte_takes faults.Truncated bytes kind.0 kind.1 fits r0 in
    let t1 = claim_of_kind_takes h accused kind.0 kind.1 x t0.0.rest_fits e0 in
    let all : Takes bytes (kind.0 ∷ claim_spelling x.0) x.1 = Takes-then bytes (kind.0 ∷ []) kind.1 (claim_spelling x.0) x.1 t0.0 t1.taken in
    (subst (λ (k : ℕ). Takes bytes (k ∷ claim_spelling x.0) x.1) (sym t1.kind_is) all, t1.fits))

claim_again : (h : RunHeader) (accused : ℕ) (claim : Claim) (rest : List ℕ) → IsClaimFor h accused claim → claim_at h accused (kind_spelling claim ++ rest) ≡ Ok (claim, rest)
unfolding claim_at claim_of_kind
claim_again h accused (TwoTexts first second) rest is = two_texts_again h accused first second rest is
claim_again h accused (TwoOrders v a w b) rest is = two_orders_again h accused v a w b rest is
claim_again h accused (MissingFromLog log s signature) rest is = missing_again h accused log s signature rest is
claim_again h accused (DepartingLog log p) rest is = departing_again h accused log p rest is
claim_again h accused (AcrossRuns x y) rest is = across_again h accused x y rest is

pub claims_read : (h : RunHeader) (accused : ℕ) → Reads (claim_at h accused) kind_spelling (IsClaimFor h accused)
claims_read h accused = record { takes = claim_takes h accused; again = claim_again h accused }
