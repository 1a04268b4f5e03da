-- What is found can stand in evidence.
use Rattle.std.proofs.Common.{◌≡◌, ℕ, ◌<◌, ◌^◌, Option, Some, None, List, [], ◌∷◌, ◌++◌, length, length-append, filter, Contains, refl, sym, ap, subst, ◌∙◌, inl, inr, arith, append_assoc}
use Rattle.std.specs.Prelude.{slice_get, ◌-◌}
use Rattle.std.specs.List.{flat_map, AllByRecursion}
use Rattle.std.proofs.lemmas.List.Elements.{All-contains, Contains-append_left, Contains-append_cases}
use Rattle.sha2.proofs.Facts256.{length-sha256}
use Rattle.gen_types.specs.Ends.{BeginsWith}
use Rattle.gen_types.proofs.Lists.{Contains_here, Contains_there, Contains_cases, Contains_nil, Contains_flat_mapped, Contains_filtered, All_of, AllPairs-front}
use Rattle.gen_net.specs.Network.{Network}
use Rattle.gen_net.specs.Header.{RunHeader, IsHeader}
use Rattle.gen_chain.specs.Chain.{signed_path}
use Rattle.gen_chain.specs.declared.chains.Signer.{Signer}
use Rattle.gen_log.specs.declared.entries.Entry.{Entry}
use Rattle.gen_log.specs.declared.entries.Entry.TheVariants.{Start, Sign, Send, Recv, Decide}
use Rattle.gen_log.specs.Entry.{IsEntryOf}
use Rattle.gen_log.specs.Fields.{AreBelow}
use Rattle.gen_log.specs.Links.{link_behind, first_link, next_link}
use Rattle.gen_log.specs.Log.{RunLog, IsLog}
use Rattle.gen_log.specs.Path.{IsPathOf}
use Rattle.gen_local.specs.declared.reading.Reading.{Reading}
use Rattle.gen_local.specs.declared.reading.Reading.TheVariants.{Unreadable, Foreign, Own}
use Rattle.gen_local.specs.declared.texts.SignedText.{SignedText}
use Rattle.gen_local.specs.declared.texts.Text.{Text}
use Rattle.gen_local.specs.declared.texts.Text.TheVariants.{OfStatement, OfHead}
use Rattle.gen_local.specs.Report.{LocalReport}
use Rattle.gen_log.specs.Writing.{LogBytes}
use Rattle.gen_local.specs.SignedTexts as signed
use Rattle.gen_local.specs.SignedTexts.{stated, texts_behind, text_under, head_in, text_verifies}
use Rattle.gen_convict.specs.Accused.{HasSignedText, AreDifferent, command}
use Rattle.gen_convict.specs.Contradictions.{Claim, TwoTexts, TwoOrders, MissingFromLog, DepartingLog, AcrossRuns}
use Rattle.gen_convict.specs.Convictions.{AreShort, shown_in}
use Rattle.gen_convict.specs.Evidence.{Accusation, IsSignature, IsTextFor, IsSignedTextFor, IsLogBytes, IsClaimFor, IsEvidence}
use Rattle.gen_convict.specs.Exhibits.{AllBytes, HeldLog, is_by, is_his, texts_of, texts_in, logs_in, logs_of, log_texts}
use Rattle.gen_convict.specs.First.{AreOrders, IsMissing, LacksSome, DepartsSomewhere, IsFirstOfKind, IsFirstClaim}
use Rattle.gen_convict.proofs.FoundClaims.{length_erased, log_longer, mapped}
use Rattle.gen_convict.proofs.FoundLogs.{AreOf, log_in, his_log, his_logs_are, his_own}
use Rattle.gen_convict.proofs.Holding.{IsReadLog, logs_read, texts_verify, first_in, pair_in}

-- ---- the front of a path

front_below : (n : ℕ) (front back : List ℕ) → AreBelow n (front ++ back) → AreBelow n front
front_below n front back all = All_of (λ v. v < n) front (λ x c. All-contains (λ v. v < n) (front ++ back) x all (Contains-append_left front back x c))

front_begins : (x : ℕ) (front back : List ℕ) → BeginsWith (x ∷ (front ++ back)) (0 ∷ []) → BeginsWith (x ∷ front) (0 ∷ [])
front_begins x front back b = let same : x ≡ 0 = cc in (front, ap (λ y. y ∷ front) same)

front_path : (net : Network) (x : ℕ) (front back : List ℕ) → IsPathOf net ((x ∷ front) ++ back) → IsPathOf net (x ∷ front)
front_path net x front back is = record {
  some = omega arith;
  few = omega (arith, is.few, length-append front back);
  below = front_below net.generals (x ∷ front) back is.below;
  distinct = AllPairs-front (x ∷ front) back is.distinct;
  from_commander = front_begins x front back is.from_commander;
}

longer_path : (net : Network) (path : List ℕ) (g : ℕ) (back : List ℕ) → IsPathOf net ((path ++ g ∷ []) ++ back) → IsPathOf net (path ++ g ∷ [])
longer_path net [] g back is = front_path net g [] back is
longer_path net (x ∷ path) g back is = front_path net x (path ++ g ∷ []) back is

-- ---- texts of a log

abbrev Fits : RunHeader → SignedText → Type 0
Fits h t = IsTextFor h t.signer t.text

chain_fits : (h : RunHeader) (order : ℕ) (full : List ℕ) → order < h.network.orders → IsPathOf h.network full → (path : List ℕ) (signers : List Signer) → full ≡ path ++ signed_path signers → (t : SignedText) → Contains (texts_behind order path signers) t → Fits h t
unfolding texts_behind
chain_fits h order full below is path [] e t c = absurd (Contains_nil t c)
chain_fits h order full below is path (s ∷ others) e t c =
    let next : full ≡ (path ++ s.general ∷ []) ++ signed_path others = e ∙ sym (append_assoc path (s.general ∷ []) (signed_path others)) in
    elim (Contains_cases (stated order (path ++ s.general ∷ []) s.general s.signature) t (texts_behind order (path ++ s.general ∷ []) others) c) [
      | inl same ↦ subst (Fits h) same (below, longer_path h.network path s.general (signed_path others) (subst (IsPathOf h.network) next is))
      | inr k ↦ chain_fits h order full below is (path ++ s.general ∷ []) others next t k
    ]

under_fits : (h : RunHeader) (order : ℕ) (path signature : List ℕ) (last : Option ℕ) (t : SignedText) → order < h.network.orders → IsPathOf h.network path → Contains (text_under order path signature last) t → Fits h t
under_fits h order path signature None t below is c = absurd (Contains_nil t c)
under_fits h order path signature (Some last) t below is c = elim (Contains_cases (stated order path last signature) t [] c) [
  | inl same ↦ subst (Fits h) same (below, is)
  | inr k ↦ absurd (Contains_nil t k)
]

count_is : (signers : List Signer) → length (signed_path signers) ≡ length signers
count_is [] = refl
count_is (s ∷ signers) = omega (arith, count_is signers)

pub entry_fits : (h : RunHeader) (e : Entry) (t : SignedText) → IsEntryOf h e → Contains (signed.texts_in e) t → Fits h t
entry_fits h (Start general own) t is c = absurd (Contains_nil t c)
entry_fits h (Sign order path signature) t is c = under_fits h order path signature (slice_get path (length path - 1)) t is.0 is.1 c
entry_fits h (Send to order path) t is c = absurd (Contains_nil t c)
entry_fits h (Recv from chain) t is c =
    let path : IsPathOf h.network (signed_path chain.signers) = record {
      some = omega (arith, is.1.chain.some, count_is chain.signers);
      few = omega (arith, is.1.few, count_is chain.signers);
      below = is.1.below;
      distinct = is.1.chain.distinct;
      from_commander = is.1.chain.from_commander;
    } in
    chain_fits h chain.order (signed_path chain.signers) is.1.order path [] chain.signers refl t c
entry_fits h (Decide orders order) t is c = absurd (Contains_nil t c)

link_length : (link : List ℕ) (es : List Entry) → length link ≡ 32 → length (link_behind link es) ≡ 32
unfolding link_behind
link_length link [] e = e
link_length link (f ∷ es) e = link_length (next_link link f) es (length-sha256 _)

first_length : (h : RunHeader) (general : ℕ) → length (first_link h general) ≡ 32
unfolding first_link
first_length h general = length-sha256 _

head_fits : (h : RunHeader) (general : ℕ) (log : RunLog) → IsLog h log → Fits h (head_in h general log)
head_fits h general log is = (refl, is.count, link_length (first_link h general) log.entries (first_length h general))

pub all_at : {X : Type 0} (P : X → Type 0) (xs : List X) → AllByRecursion P xs → (x : X) → Contains xs x → P x
all_at P [] all x c = absurd (Contains_nil x c)
all_at P (y ∷ ys) all x c = elim (Contains_cases y x ys c) [ inl e ↦ subst P e all.0 | inr k ↦ all_at P ys all.1 x k ]

log_fits : (h : RunHeader) (l : HeldLog) (t : SignedText) → IsLog h l.log → Contains (flat_map signed.texts_in l.log.entries ++ head_in h l.general l.log ∷ []) t → Fits h t
log_fits h l t is c =
    elim (Contains-append_cases (flat_map signed.texts_in l.log.entries) (head_in h l.general l.log ∷ []) t c) [
      | inl k ↦
          let f = Contains_flat_mapped signed.texts_in l.log.entries t k in
          entry_fits h f.0 t (all_at (IsEntryOf h) l.log.entries is.entries f.0 f.1) f.2
      | inr k ↦ elim (Contains_cases (head_in h l.general l.log) t [] k) [
        | inl same ↦ subst (Fits h) same (head_fits h l.general l.log is)
        | inr none ↦ absurd (Contains_nil t none)
      ]
    ]

wide : (h : RunHeader) (general : ℕ) (text : Text) (signature : List ℕ) → HasSignedText h general text signature → IsSignature h signature
wide h general (OfStatement s) signature stands = stands.1.one_each
wide h general (OfHead head) signature stands = stands.one_each

pub text_fits : (h : RunHeader) (exhibits : List LogBytes) (general : ℕ) (t : SignedText) → IsHeader h → AllBytes exhibits → Contains (texts_of h exhibits general) t → IsSignedTextFor h general t
unfolding texts_of texts_in
text_fits h exhibits general t ok all c =
    let v = texts_verify h exhibits general t ok all c in
    let by = Contains_filtered (is_by general) (texts_in h exhibits) t c in
    let f = Contains_flat_mapped (log_texts h) (logs_in h exhibits) t by.0 in
    let r = logs_read h exhibits f.0 ok all f.1 in
    let k = Contains_filtered (text_verifies h) (flat_map signed.texts_in f.0.log.entries ++ head_in h f.0.general f.0.log ∷ []) t f.2 in
    record {
      signer = v.signer;
      text = subst (λ (g : ℕ). IsTextFor h g t.text) v.signer (log_fits h f.0 t r.reads.fits k.0);
      signature = wide h general t.text t.signature v.stands;
    }

-- ---- claims

pub all_bytes : (h : RunHeader) (reports : List LocalReport) → AreOf h reports → AllBytes (shown_in reports)
all_bytes h reports are x c = let f = shown_by reports x c in subst (λ (y : LogBytes). AreBelow 256 y.bytes) f.2 (are.bytes f.0 f.1)
  where
    shown_by : (reports : List LocalReport) (x : LogBytes) → Contains (shown_in reports) x → (r : LocalReport) × Contains reports r × (r.exhibit ≡ x)
    shown_by [] x c = absurd (Contains_nil x c)
    shown_by (r ∷ rs) x c = elim (Contains_cases r.exhibit x (shown_in rs) c) [
      | inl e ↦ (r, Contains_here r rs, e)
      | inr k ↦ let f = shown_by rs x k in (f.0, Contains_there r f.0 rs f.1, f.2)
    ]

bytes_of : (general : ℕ) (exhibit : LogBytes) (reading : Reading) (l : HeldLog) → Contains (filter (is_his general) (log_in exhibit reading)) l → exhibit.bytes ≡ l.bytes
bytes_of general exhibit (Unreadable fault) l c = absurd (Contains_nil l c)
bytes_of general exhibit Foreign l c = absurd (Contains_nil l c)
bytes_of general exhibit (Own found) l c = ap (λ (m : HeldLog). m.bytes) (his_own general exhibit found l c).1

module _ (h : RunHeader) (reports : List LocalReport) (ok : IsHeader h) (are : AreOf h reports) (short : AreShort (shown_in reports)) (general : ℕ) where
  log_bytes : (l : HeldLog) → Contains (logs_of h (shown_in reports) general) l → IsLogBytes l.bytes
  log_bytes l c =
      let c1 : Contains (flat_map (his_log general) reports) l = subst (λ ls. Contains ls l) (his_logs_are h reports general are) c in
      let f = Contains_flat_mapped (his_log general) reports l c1 in
      let e = bytes_of general f.0.exhibit f.0.reading l f.2 in
      subst IsLogBytes e (are.bytes f.0 f.1, short f.0.exhibit (mapped (λ (r : LocalReport). r.exhibit) reports f.0 f.1))

  read_as : (l : HeldLog) → Contains (logs_of h (shown_in reports) general) l → IsReadLog h l
  unfolding logs_of
  read_as l c = logs_read h (shown_in reports) l ok (all_bytes h reports are) (Contains_filtered (is_his general) (logs_in h (shown_in reports)) l c).0

  fits_in : (t : SignedText) → Contains (texts_of h (shown_in reports) general) t → IsSignedTextFor h general t
  fits_in t c = text_fits h (shown_in reports) general t ok (all_bytes h reports are) c

  claim_lawful : (claim : Claim) → IsFirstOfKind h (shown_in reports) general claim → IsClaimFor h general claim
  claim_lawful (TwoTexts x y) made =
      let c = pair_in AreDifferent (texts_of h (shown_in reports) general) x y made in
      (fits_in x c.0, fits_in y c.1)
  claim_lawful (TwoOrders v a w b) made =
      let c = pair_in AreOrders (texts_of h (shown_in reports) general) (command v a) (command w b) made.1 in
      let x = fits_in (command v a) c.0 in
      let y = fits_in (command w b) c.1 in
      (x.text.0, x.signature, y.text.0, y.signature)
  claim_lawful (MissingFromLog bytes s signature) made =
      let c = first_in (LacksSome h (texts_of h (shown_in reports) general)) (logs_of h (shown_in reports) general) made.0 made.2 in
      let t = first_in (IsMissing made.0.log) (texts_of h (shown_in reports) general) (stated s.order s.path general signature) made.3 in
      let x = fits_in (stated s.order s.path general signature) t in
      (subst IsLogBytes (sym made.1) (log_bytes made.0 c), x.text, x.signature)
  claim_lawful (DepartingLog bytes p) made =
      let c = first_in (DepartsSomewhere h) (logs_of h (shown_in reports) general) made.0 made.2 in
      let b = log_bytes made.0 c in
      let r = read_as made.0 c in
      let few : p < 2 ^ 32 = omega (arith, made.3.1.0, length_erased made.0.log.entries, log_longer made.0.log, ap length r.reads.spelled, b.1) in
      (subst IsLogBytes (sym made.1) b, few)
  claim_lawful (AcrossRuns x y) made = absurd made

pub found_lawful : (h : RunHeader) (reports : List LocalReport) → IsHeader h → AreOf h reports → AreShort (shown_in reports) → (x : Accusation) → (x.accused < h.network.generals) × IsFirstClaim h (shown_in reports) x.accused x.claim → IsEvidence h x
found_lawful h reports ok are short x is = record { known = is.0; claim = claim_lawful h reports ok are short x.accused x.claim is.1.first }
