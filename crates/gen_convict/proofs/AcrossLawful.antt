-- What is found across runs can stand in evidence.
use Rattle.std.proofs.Common.{◌≡◌, ℕ, ◌<◌, Option, Some, None, inl, inr, List, [], ◌∷◌, ◌++◌, length, map, Contains, refl, sym, subst}
use Rattle.std.specs.Prelude.{slice_get, ◌-◌}
use Rattle.std.specs.List.{flat_map}
use Rattle.std.proofs.lemmas.List.Elements.{All-contains, Contains-append_cases}
use Rattle.gen_types.proofs.Lists.{Contains-middle, Contains_cases, Contains_nil, Contains_flat_mapped, Contains_filtered, Contains_mapped}
use Rattle.gen_net.specs.Header.{RunHeader, IsHeader}
use Rattle.gen_chain.specs.declared.statements.Statement.{Statement}
use Rattle.gen_chain.specs.declared.chains.Signer.{Signer}
use Rattle.gen_log.specs.declared.entries.Entry.{Entry}
use Rattle.gen_log.specs.declared.entries.Entry.TheVariants.{Start, Sign, Send, Recv, Decide}
use Rattle.gen_log.specs.Entry.{IsEntryOf}
use Rattle.gen_log.specs.Fields.{AreBelow}
use Rattle.gen_log.specs.Writing.{LogBytes}
use Rattle.gen_local.specs.declared.texts.SignedText.{SignedText}
use Rattle.gen_local.specs.declared.texts.Text.TheVariants.{OfStatement}
use Rattle.gen_local.specs.SignedTexts as signed
use Rattle.gen_local.specs.SignedTexts.{stated, texts_behind, text_under, head_in, text_verifies}
use Rattle.gen_convict.specs.declared.run_texts.RunText.{RunText}
use Rattle.gen_convict.specs.Accused.{IsTextOf}
use Rattle.gen_convict.specs.Across.{AreRivals, ShownRun, of_run, texts_across, IsFirstAcross}
use Rattle.gen_convict.specs.AcrossLaws.{AreLawful}
use Rattle.gen_convict.specs.Contradictions.{Claim, AcrossRuns}
use Rattle.gen_convict.specs.Evidence.{Accusation, IsTextFor, IsSignedTextFor, IsClaimFor, IsEvidence}
use Rattle.gen_convict.specs.Exhibits.{AllBytes, HeldLog, is_by, texts_of, texts_in, logs_in, log_texts}
use Rattle.gen_convict.proofs.Holding.{IsReadLog, logs_read, texts_verify, entry_his, pair_in}
use Rattle.gen_convict.proofs.Lawful.{all_at, entry_fits, text_fits}

-- ---- who signed a text of a log is a general of the network

IsStated : SignedText → Type 0
IsStated t = (s : Statement) × (t.text ≡ OfStatement s)

behind_stated : (order : ℕ) (path : List ℕ) (signers : List Signer) (t : SignedText) → Contains (texts_behind order path signers) t → IsStated t
unfolding texts_behind IsStated
behind_stated order path [] t c = absurd (Contains_nil t c)
behind_stated order path (s ∷ others) t c =
    elim (Contains_cases (stated order (path ++ s.general ∷ []) s.general s.signature) t (texts_behind order (path ++ s.general ∷ []) others) c) [
      | inl same ↦ subst IsStated same (record { order = order; path = path ++ s.general ∷ [] }, refl)
      | inr k ↦ behind_stated order (path ++ s.general ∷ []) others t k
    ]

under_stated : (order : ℕ) (path signature : List ℕ) (last : Option ℕ) (t : SignedText) → Contains (text_under order path signature last) t → IsStated t
unfolding IsStated
under_stated order path signature None t c = absurd (Contains_nil t c)
under_stated order path signature (Some last) t c = elim (Contains_cases (stated order path last signature) t [] c) [
  | inl same ↦ subst IsStated same (record { order = order; path = path }, refl)
  | inr k ↦ absurd (Contains_nil t k)
]

entry_stated : (e : Entry) (t : SignedText) → Contains (signed.texts_in e) t → IsStated t
entry_stated (Start general own) t c = absurd (Contains_nil t c)
entry_stated (Sign order path signature) t c = under_stated order path signature (slice_get path (length path - 1)) t c
entry_stated (Send to order path) t c = absurd (Contains_nil t c)
entry_stated (Recv from chain) t c = behind_stated chain.order [] chain.signers t c
entry_stated (Decide orders order) t c = absurd (Contains_nil t c)

stated_known : (h : RunHeader) (t : SignedText) → IsStated t → IsTextFor h t.signer t.text → IsTextOf t.signer t.text → t.signer < h.network.generals
unfolding IsStated
stated_known h t is fits his =
    let path = subst (IsTextFor h t.signer) is.1 fits in
    let ends = subst (IsTextOf t.signer) is.1 his in
    let below = subst (AreBelow h.network.generals) ends.1 path.1.below in
    All-contains (λ v. v < h.network.generals) (ends.0 ++ t.signer ∷ []) t.signer below (Contains-middle ends.0 t.signer [])

start_known : (h : RunHeader) (l : HeldLog) → IsReadLog h l → l.general < h.network.generals
start_known h l is =
    let starts = is.says.starts in
    let first = subst (λ (es : List Entry). Contains es (Start l.general starts.0)) (sym starts.2) (Contains-middle [] (Start l.general starts.0) starts.1) in
    (all_at (IsEntryOf h) l.log.entries is.reads.fits.entries (Start l.general starts.0) first).0

log_known : (h : RunHeader) (l : HeldLog) (t : SignedText) → IsReadLog h l → Contains (flat_map signed.texts_in l.log.entries ++ head_in h l.general l.log ∷ []) t → t.signer < h.network.generals
log_known h l t is c = elim (Contains-append_cases (flat_map signed.texts_in l.log.entries) (head_in h l.general l.log ∷ []) t c) [
  | inl k ↦
      let f = Contains_flat_mapped signed.texts_in l.log.entries t k in
      let entry = all_at (IsEntryOf h) l.log.entries is.reads.fits.entries f.0 f.1 in
      stated_known h t (entry_stated f.0 t f.2) (entry_fits h f.0 t entry f.2) (entry_his f.0 t f.2)
  | inr k ↦ elim (Contains_cases (head_in h l.general l.log) t [] k) [
    | inl same ↦ subst (λ (u : SignedText). u.signer < h.network.generals) same (start_known h l is)
    | inr none ↦ absurd (Contains_nil t none)
  ]
]

text_known : (h : RunHeader) (exhibits : List LogBytes) (general : ℕ) (t : SignedText) → IsHeader h → AllBytes exhibits → Contains (texts_of h exhibits general) t → general < h.network.generals
unfolding texts_of texts_in
text_known h exhibits general t ok all c =
    let v = texts_verify h exhibits general t ok all c in
    let by = Contains_filtered (is_by general) (texts_in h exhibits) t c in
    let f = Contains_flat_mapped (log_texts h) (logs_in h exhibits) t by.0 in
    let k = Contains_filtered (text_verifies h) (flat_map signed.texts_in f.0.log.entries ++ head_in h f.0.general f.0.log ∷ []) t f.2 in
    subst (λ (g : ℕ). g < h.network.generals) v.signer (log_known h f.0 t (logs_read h exhibits f.0 ok all f.1) k.0)

-- ---- texts of runs

record IsShown (general : ℕ) (x : RunText) : Type 0 where
  header : IsHeader x.header
  text : IsSignedTextFor x.header general x.text
  known : general < x.header.network.generals

shown : (runs : List ShownRun) (general : ℕ) (x : RunText) → AreLawful runs → Contains (texts_across runs general) x → IsShown general x
unfolding texts_across
shown runs general x lawful c =
    let f = Contains_flat_mapped (λ (r : ShownRun). map (of_run r.header) (texts_of r.header r.exhibits general)) runs x c in
    let t = Contains_mapped (of_run f.0.header) (texts_of f.0.header f.0.exhibits general) x f.2 in
    let ok = lawful f.0 f.1 in
    subst (IsShown general) t.2 (record {
      header = ok.0;
      text = text_fits f.0.header f.0.exhibits general t.0 ok.0 ok.1 t.1;
      known = text_known f.0.header f.0.exhibits general t.0 ok.0 ok.1 t.1;
    })

pub across_lawful : (runs : List ShownRun) (x : Accusation) (v w : RunText) → AreLawful runs → x.claim ≡ AcrossRuns v w → IsFirstAcross runs x.accused v w → IsEvidence v.header x
across_lawful runs x v w lawful is p =
    let c = pair_in AreRivals (texts_across runs x.accused) v w p in
    let one = shown runs x.accused v lawful c.0 in
    let other = shown runs x.accused w lawful c.1 in
    let claim : IsClaimFor v.header x.accused (AcrossRuns v w) = record { of_first = refl; other = other.header; runs = p.holds.runs; one = one.text; two = other.text } in
    record { known = one.known; claim = subst (λ (k : Claim). IsClaimFor v.header x.accused k) (sym is) claim }
