-- Texts, signatures and logs in evidence: what was read is what stood there, and what was written is read again.
use Rattle.std.proofs.Common.{◌≡◌, ℕ, ◌^◌, ◌<◌, Bool, true, false, cond, eqb, List, [], ◌∷◌, ◌++◌, length, Result, Ok, refl, sym, ap, subst, append_assoc, ◌∙◌}
use Rattle.std.specs.Int.{w32, w64, to_be_bytes}
use Rattle.std.proofs.lemmas.Bool.{eqb-true}
use Rattle.std.proofs.lemmas.List.{take_at}
use Rattle.std.proofs.lemmas.List.Elements.{All-from_get_or}
use Rattle.gen_types.specs.Reading.{◌>>=◌}
use Rattle.gen_types.specs.Bytes.{byte_at, bytes_at, number_at}
use Rattle.gen_types.proofs.ByteFields.{IsBytes, IsBytes-take, Takes, Takes-then, byte_takes, bytes_takes, bytes_again, number_takes, number_again, wide32, wide64}
use Rattle.gen_types.proofs.ManyFields.{Reads}
use Rattle.gen_types.proofs.Steps.{after, at_end}
use Rattle.gen_types.proofs.Wrapped.{mapped_reads}
use Rattle.gen_tree.specs.Sizes.{signature_length}
use Rattle.gen_net.specs.Header.{RunHeader, height_of}
use Rattle.gen_net.specs.Network.{Network}
use Rattle.gen_chain.specs.declared.statements.Statement.{Statement}
use Rattle.gen_chain.specs.declared.statements.HeadText.{HeadText}
use Rattle.gen_log.specs.Fields.{AreBelow, number_spelling}
use Rattle.gen_log.specs.FieldReading as logs
use Rattle.gen_log.specs.Path.{IsPathOf, path_spelling}
use Rattle.gen_log.specs.PathReading as paths
use Rattle.gen_log.proofs.FieldLaws.{numbers_read}
use Rattle.gen_log.proofs.PathLaws.{paths_read}
use Rattle.gen_local.specs.declared.texts.SignedText.{SignedText}
use Rattle.gen_local.specs.declared.texts.Text.{Text}
use Rattle.gen_local.specs.declared.texts.Text.TheVariants.{OfStatement, OfHead}
use Rattle.gen_convict.specs.declared.evidence_fault.EvidenceFault.{EvidenceFault}
use Rattle.gen_convict.specs.declared.evidence_fault.EvidenceFault.TheVariants as faults
use Rattle.gen_convict.specs.Evidence.{IsSignature, IsStatementOf, IsTextFor, IsSignedTextFor, IsLogBytes}
use Rattle.gen_convict.specs.EvidenceFields.{field_fault, order_at, path_at, statement_at, head_at, statement_text_at, head_text_at, text_of_kind, text_at, signature_at, signed_at, log_at}
use Rattle.gen_convict.specs.EvidenceSpelling.{statement_kind, head_kind, statement_spelling, head_spelling, text_spelling, signed_spelling, shown_spelling}

-- what a reader of a format took
abbrev pub Taken : {A : Type 0} → (A → List ℕ) → (A → Type 0) → List ℕ → A × List ℕ → Type 0
Taken spell Fits bytes x = Takes bytes (spell x.0) x.1 × Fits x.0

-- ---- statements

pub orders_read : (net : Network) → Reads (order_at net) number_spelling (λ v. v < net.orders)
orders_read net = mapped_reads field_fault (logs.order_at net) number_spelling (λ v. v < net.orders) (numbers_read net.orders)

pub path_reads : (net : Network) → Reads (path_at net) path_spelling (IsPathOf net)
path_reads net = mapped_reads field_fault (paths.path_at net) path_spelling (IsPathOf net) (paths_read net)

statement_takes : (h : RunHeader) (bytes : List ℕ) (x : Statement × List ℕ) → IsBytes bytes → statement_at h.network bytes ≡ Ok x → Taken statement_spelling (IsStatementOf h) bytes x
unfolding statement_at
statement_takes h bytes x fits e =
    let made : ℕ → List ℕ × List ℕ → Result (Statement × List ℕ) EvidenceFault = λ order path. Ok (record { order = order; path = path.0 }, path.1) in
    after (order_at h.network bytes) (λ order. path_at h.network order.1 >>= made order.0) x e (λ order r0 e0.
    after (path_at h.network order.1) (made order.0) x e0 (λ path r1 e1.
    let t0 = (orders_read h.network).takes bytes order fits r0 in
    let t1 = (path_reads h.network).takes order.1 path t0.0.rest_fits r1 in
    let both = Takes-then bytes (order.0 ∷ []) order.1 (path_spelling path.0) path.1 t0.0 t1.0 in
    at_end {F = EvidenceFault} (Taken statement_spelling (IsStatementOf h) bytes) (record { order = order.0; path = path.0 }, path.1) x e1 (both, (t0.1, t1.1))))

statement_again : (h : RunHeader) (s : Statement) (rest : List ℕ) → IsStatementOf h s → statement_at h.network (statement_spelling s ++ rest) ≡ Ok (s, rest)
unfolding statement_at
statement_again h s rest is =
    let order = (orders_read h.network).again s.order (path_spelling s.path ++ rest) is.0 in
    let path = (path_reads h.network).again s.path rest is.1 in
    rw (order, path) refl

pub statements_read : (h : RunHeader) → Reads (statement_at h.network) statement_spelling (IsStatementOf h)
statements_read h = record { takes = statement_takes h; again = statement_again h }

-- ---- heads

abbrev IsHeadFor : RunHeader → ℕ → HeadText → Type 0
IsHeadFor h general head = IsTextFor h general (OfHead head)

head_takes : (h : RunHeader) (general : ℕ) (bytes : List ℕ) (x : HeadText × List ℕ) → IsBytes bytes → head_at general bytes ≡ Ok x → Taken head_spelling (IsHeadFor h general) bytes x
unfolding head_at
head_takes h general bytes x fits e =
    let made : ℕ → List ℕ × List ℕ → Result (HeadText × List ℕ) EvidenceFault = λ entries link. Ok (record { general = general; entries = entries; last_link = link.0 }, link.1) in
    after (number_at faults.Truncated w64 bytes) (λ entries. bytes_at faults.Truncated 32 entries.1 >>= made entries.0) x e (λ entries r0 e0.
    after (bytes_at faults.Truncated 32 entries.1) (made entries.0) x e0 (λ link r1 e1.
    let t0 = number_takes faults.Truncated w64 (2 ^ 64) wide64 bytes entries.0 entries.1 fits r0 in
    let t1 = bytes_takes faults.Truncated 32 entries.1 link.0 link.1 t0.0.rest_fits r1 in
    let both = Takes-then bytes (to_be_bytes w64 entries.0) entries.1 link.0 link.1 t0.0 t1.0 in
    at_end {F = EvidenceFault} (Taken head_spelling (IsHeadFor h general) bytes) (record { general = general; entries = entries.0; last_link = link.0 }, link.1) x e1 (both, (refl, t0.1, t1.1))))

head_again : (h : RunHeader) (general : ℕ) (head : HeadText) (rest : List ℕ) → IsHeadFor h general head → head_at general (head_spelling head ++ rest) ≡ Ok (head, rest)
unfolding head_at
head_again h general head rest is =
    let regrouped : head_spelling head ++ rest ≡ to_be_bytes w64 head.entries ++ (head.last_link ++ rest) = append_assoc (to_be_bytes w64 head.entries) head.last_link rest in
    let entries = number_again {F = EvidenceFault} faults.Truncated w64 (2 ^ 64) wide64 head.entries (head.last_link ++ rest) is.1 in
    let link = bytes_again {F = EvidenceFault} faults.Truncated 32 head.last_link rest is.2 in
    ap (head_at general) regrouped ∙ rw (← is.0, entries, link) refl

-- ---- texts

-- an if of which one side or the other was read
pub cases : {A F P : Type 0} (b : Bool) (r s : Result A F) (x : A) → cond b r s ≡ Ok x → (b ≡ true → r ≡ Ok x → P) → (b ≡ false → s ≡ Ok x → P) → P
cases true r s x e here there = here refl e
cases false r s x e here there = there refl e

-- a text that was read behind the byte of its kind
record TextTaken (h : RunHeader) (general kind : ℕ) (bytes : List ℕ) (x : Text × List ℕ) : Type 0 where
  text : List ℕ
  spelled : text_spelling x.0 ≡ kind ∷ text
  taken : Takes bytes text x.1
  fits : IsTextFor h general x.0

statement_text_takes : (h : RunHeader) (general : ℕ) (bytes : List ℕ) (x : Text × List ℕ) → IsBytes bytes → statement_text_at h.network bytes ≡ Ok x → TextTaken h general statement_kind bytes x
unfolding statement_text_at
statement_text_takes h general bytes x fits e =
    after (statement_at h.network bytes) (λ s. Ok (OfStatement s.0, s.1)) x e (λ s r0 e0.
    let t = statement_takes h bytes s fits r0 in
    at_end {F = EvidenceFault} (TextTaken h general statement_kind bytes) (OfStatement s.0, s.1) x e0 (record { text = statement_spelling s.0; spelled = refl; taken = t.0; fits = t.1 }))

head_text_takes : (h : RunHeader) (general : ℕ) (bytes : List ℕ) (x : Text × List ℕ) → IsBytes bytes → head_text_at general bytes ≡ Ok x → TextTaken h general head_kind bytes x
unfolding head_text_at
head_text_takes h general bytes x fits e =
    after (head_at general bytes) (λ s. Ok (OfHead s.0, s.1)) x e (λ s r0 e0.
    let t = head_takes h general bytes s fits r0 in
    at_end {F = EvidenceFault} (TextTaken h general head_kind bytes) (OfHead s.0, s.1) x e0 (record { text = head_spelling s.0; spelled = refl; taken = t.0; fits = t.1 }))

of_kind : (h : RunHeader) (general kind known : ℕ) (bytes : List ℕ) (x : Text × List ℕ) → eqb kind known ≡ true → TextTaken h general known bytes x → TextTaken h general kind bytes x
of_kind h general kind known bytes x e t = subst (λ (k : ℕ). TextTaken h general k bytes x) (sym (eqb-true kind known e)) t

text_of_kind_takes : (h : RunHeader) (general kind : ℕ) (bytes : List ℕ) (x : Text × List ℕ) → IsBytes bytes → text_of_kind h.network general kind bytes ≡ Ok x → TextTaken h general kind bytes x
unfolding text_of_kind
text_of_kind_takes h general kind bytes x fits e =
    cases (eqb kind statement_kind) (statement_text_at h.network bytes) _ x e (λ k r. of_kind h general kind statement_kind bytes x k (statement_text_takes h general bytes x fits r)) (λ k0 e0.
    cases (eqb kind head_kind) (head_text_at general bytes) _ x e0 (λ k r. of_kind h general kind head_kind bytes x k (head_text_takes h general bytes x fits r)) (λ k1 e1. absurd cc))

text_takes : (h : RunHeader) (general : ℕ) (bytes : List ℕ) (x : Text × List ℕ) → IsBytes bytes → text_at h.network general bytes ≡ Ok x → Taken text_spelling (IsTextFor h general) bytes x
unfolding text_at
text_takes h general bytes x fits e =
    after (byte_at faults.Truncated bytes) (λ kind. text_of_kind h.network general kind.0 kind.1) x e (λ kind r0 e0.
    let t0 = byte_takes faults.Truncated bytes kind.0 kind.1 fits r0 in
    let t1 = text_of_kind_takes h general kind.0 kind.1 x t0.0.rest_fits e0 in
    let all : Takes bytes (kind.0 ∷ t1.text) x.1 = Takes-then bytes (kind.0 ∷ []) kind.1 t1.text x.1 t0.0 t1.taken in
    (subst (λ (t : List ℕ). Takes bytes t x.1) (sym t1.spelled) all, t1.fits))

text_again : (h : RunHeader) (general : ℕ) (text : Text) (rest : List ℕ) → IsTextFor h general text → text_at h.network general (text_spelling text ++ rest) ≡ Ok (text, rest)
unfolding text_at text_of_kind statement_text_at head_text_at
text_again h general (OfStatement s) rest is = rw (statement_again h s rest is) refl
text_again h general (OfHead head) rest is = rw (head_again h general head rest is) refl

-- ---- signatures

pub signature_takes : (h : RunHeader) (bytes : List ℕ) (x : List ℕ × List ℕ) → IsBytes bytes → signature_at h bytes ≡ Ok x → Takes bytes x.0 x.1 × IsSignature h x.0
signature_takes h bytes x fits e = bytes_takes faults.Truncated (signature_length (height_of h)) bytes x.0 x.1 fits e

pub signature_again : (h : RunHeader) (signature rest : List ℕ) → IsSignature h signature → signature_at h (signature ++ rest) ≡ Ok (signature, rest)
signature_again h signature rest is = bytes_again faults.Truncated (signature_length (height_of h)) signature rest is

signed_takes : (h : RunHeader) (general : ℕ) (bytes : List ℕ) (x : SignedText × List ℕ) → IsBytes bytes → signed_at h general bytes ≡ Ok x → Taken signed_spelling (IsSignedTextFor h general) bytes x
unfolding signed_at
signed_takes h general bytes x fits e =
    let made : Text → List ℕ × List ℕ → Result (SignedText × List ℕ) EvidenceFault = λ text signature. Ok (record { signer = general; text = text; signature = signature.0 }, signature.1) in
    after (text_at h.network general bytes) (λ text. signature_at h text.1 >>= made text.0) x e (λ text r0 e0.
    after (signature_at h text.1) (made text.0) x e0 (λ signature r1 e1.
    let t0 = text_takes h general bytes text fits r0 in
    let t1 = signature_takes h text.1 signature t0.0.rest_fits r1 in
    let both = Takes-then bytes (text_spelling text.0) text.1 signature.0 signature.1 t0.0 t1.0 in
    at_end {F = EvidenceFault} (Taken signed_spelling (IsSignedTextFor h general) bytes) (record { signer = general; text = text.0; signature = signature.0 }, signature.1) x e1 (both, record { signer = refl; text = t0.1; signature = t1.1 })))

signed_again : (h : RunHeader) (general : ℕ) (t : SignedText) (rest : List ℕ) → IsSignedTextFor h general t → signed_at h general (signed_spelling t ++ rest) ≡ Ok (t, rest)
unfolding signed_at
signed_again h general t rest is =
    let regrouped : signed_spelling t ++ rest ≡ text_spelling t.text ++ (t.signature ++ rest) = append_assoc (text_spelling t.text) t.signature rest in
    let text = text_again h general t.text (t.signature ++ rest) is.text in
    let signature = signature_again h t.signature rest is.signature in
    let whose : t.signer ≡ general = is.signer in
    let made : SignedText = record { signer = general; text = t.text; signature = t.signature } in
    let same : made ≡ t = λ i. record { signer = sym whose i; text = t.text; signature = t.signature } in
    let read : signed_at h general (text_spelling t.text ++ (t.signature ++ rest)) ≡ Ok (made, rest) = rw (text, signature) refl in
    ap (signed_at h general) regrouped ∙ read ∙ ap (λ (s : SignedText). Ok (s, rest)) same

pub signed_read : (h : RunHeader) (general : ℕ) → Reads (signed_at h general) signed_spelling (IsSignedTextFor h general)
signed_read h general = record { takes = signed_takes h general; again = signed_again h general }

-- ---- logs

front_of : (bytes text rest : List ℕ) → IsBytes bytes → bytes ≡ text ++ rest → AreBelow 256 text
front_of bytes text rest fits parts =
    let all : IsBytes text = subst IsBytes (take_at text rest (length text) refl) (IsBytes-take (length text) (text ++ rest) (subst IsBytes parts fits)) in
    All-from_get_or (λ b. b < 256) text 0 (λ i lt. all i)

log_takes : (bytes : List ℕ) (x : List ℕ × List ℕ) → IsBytes bytes → log_at bytes ≡ Ok x → Taken shown_spelling IsLogBytes bytes x
unfolding log_at
log_takes bytes x fits e =
    after (number_at faults.Truncated w32 bytes) (λ size. bytes_at faults.Truncated size.0 size.1) x e (λ size r0 e0.
    let t0 = number_takes faults.Truncated w32 (2 ^ 32) wide32 bytes size.0 size.1 fits r0 in
    let t1 = bytes_takes faults.Truncated size.0 size.1 x.0 x.1 t0.0.rest_fits e0 in
    let both = Takes-then bytes (to_be_bytes w32 size.0) size.1 x.0 x.1 t0.0 t1.0 in
    let spelled = subst (λ (k : ℕ). Takes bytes (to_be_bytes w32 k ++ x.0) x.1) (sym t1.1) both in
    let small : length x.0 < 2 ^ 32 = rw t1.1 t0.1 in
    (spelled, (front_of size.1 x.0 x.1 t0.0.rest_fits t1.0.parts, small)))

log_again : (log rest : List ℕ) → IsLogBytes log → log_at (shown_spelling log ++ rest) ≡ Ok (log, rest)
unfolding log_at
log_again log rest is =
    let regrouped : shown_spelling log ++ rest ≡ to_be_bytes w32 (length log) ++ (log ++ rest) = append_assoc (to_be_bytes w32 (length log)) log rest in
    let size = number_again {F = EvidenceFault} faults.Truncated w32 (2 ^ 32) wide32 (length log) (log ++ rest) is.1 in
    let bytes = bytes_again {F = EvidenceFault} faults.Truncated (length log) log rest refl in
    ap log_at regrouped ∙ rw (size, bytes) refl

pub logs_read : Reads log_at shown_spelling IsLogBytes
logs_read = record { takes = log_takes; again = log_again }
