-- What exhibits hold: logs that read, and texts that verify.
use Rattle.std.proofs.Common.{◌≡◌, ℕ, suc, inl, inr, Bool, true, ◌&&◌, List, [], ◌∷◌, ◌++◌, length, Contains, Result, Ok, Err, Option, Some, None, refl, sym, ap, subst, ◌∙◌, arith}
use Rattle.std.specs.Prelude.{slice_get, ◌-◌}
use Rattle.std.specs.Bool.{nat_eq}
use Rattle.std.specs.List.{flat_map}
use Rattle.std.specs.Cmp.Lexicographic.{pointwise, same_text}
use Rattle.std.proofs.Math.Bool.{and-eq-true_iff}
use Rattle.std.proofs.lemmas.Bool.{eqb-true}
use Rattle.std.proofs.lemmas.List.Elements.{Contains-append_cases, Contains-append_right}
use Rattle.gen_types.specs.Ends.{EndsWith}
use Rattle.gen_types.proofs.Lists.{bool_cases, Contains-middle, Contains_there, Contains_cases, Contains_nil, Contains_flat_mapped, Contains_filtered}
use Rattle.gen_net.specs.Departs.{DepartsAt}
use Rattle.gen_net.specs.Header.{RunHeader, IsHeader, run_id_of, root_of, height_of}
use Rattle.gen_chain.specs.declared.chains.Signer.{Signer}
use Rattle.gen_chain.specs.Leaves.{leaf_of_head}
use Rattle.gen_chain.specs.Texts.{head_digest}
use Rattle.gen_chain.proofs.TestedChains.{signed_has, under_has}
use Rattle.gen_log.specs.declared.entries.Entry.{Entry}
use Rattle.gen_log.specs.declared.entries.Entry.TheVariants.{Start, Sign, Send, Recv, Decide}
use Rattle.gen_log.specs.declared.fault.LogFault.{LogFault}
use Rattle.gen_log.specs.Fields.{AreBelow}
use Rattle.gen_log.specs.Links.{HeadVerifies}
use Rattle.gen_log.specs.Log.{RunLog, IsLog, BeginsWithStartOf, log_spelling}
use Rattle.gen_log.specs.LogReading.{log_of}
use Rattle.gen_log.specs.Verifying.{starts_as, says_it_is_of, SaysItIsOf}
use Rattle.gen_log.proofs.LogLaws.{log_found}
use Rattle.gen_log.proofs.NextEntries.{are_bytes}
use Rattle.gen_types.specs.Spelled.{Spells}
use Rattle.gen_local.specs.declared.texts.SignedText.{SignedText}
use Rattle.gen_local.specs.declared.texts.Text.{Text}
use Rattle.gen_local.specs.declared.texts.Text.TheVariants.{OfStatement, OfHead}
use Rattle.gen_local.specs.Erased.{erased}
use Rattle.gen_log.specs.Writing.{LogBytes}
use Rattle.gen_local.specs.SignedTexts as signed
use Rattle.gen_local.specs.SignedTexts.{stated, texts_behind, text_under, head_in, is_right, text_verifies}
use Rattle.gen_convict.specs.Accused.{IsTextOf, HasSignedText, AreDifferent, command}
use Rattle.gen_convict.specs.Contradictions.{IsSealedLogOf, Claim, TwoTexts, TwoOrders, MissingFromLog, DepartingLog, AcrossRuns, IsContradiction}
use Rattle.gen_convict.specs.Exhibits.{AllBytes, HeldLog, held, logs_in, log_texts, texts_in, is_by, texts_of, is_his, logs_of}
use Rattle.gen_convict.specs.First.{AreOrders, IsMissing, LacksSome, DepartsSomewhere, IsFirstOfKind}
use Rattle.gen_convict.specs.Firsts.{IsFirst, IsFirstPair}
use Rattle.gen_convict.specs.FirstLaws.{TextsVerify, FirstHolds}

both : (a b : Bool) → (a && b) ≡ true → (a ≡ true) × (b ≡ true)
both a b e = (and-eq-true_iff a b).0 e

-- ---- logs that were read

pub starts_known : (general : ℕ) (entries : List Entry) → starts_as general entries ≡ true → BeginsWithStartOf general entries
starts_known general [] e = absurd cc
starts_known general (Start g own ∷ more) e = (own, more, ap (λ x. Start x own ∷ more) (eqb-true g general e))
starts_known general (Sign order path signature ∷ more) e = absurd cc
starts_known general (Send to order path ∷ more) e = absurd cc
starts_known general (Recv from chain ∷ more) e = absurd cc
starts_known general (Decide orders order ∷ more) e = absurd cc

pub record IsReadLog (h : RunHeader) (l : HeldLog) : Type 0 where
  pub reads : Spells (IsLog h) log_spelling l.bytes l.log
  pub says : SaysItIsOf h l.general l.log

held_read : (h : RunHeader) (exhibit : LogBytes) (l : HeldLog) → IsHeader h → AreBelow 256 exhibit.bytes → (r : Result RunLog LogFault) → log_of h exhibit.bytes ≡ r → Contains (held h exhibit r) l → IsReadLog h l
held_read h exhibit l ok bytes (Err fault) e c = absurd (Contains_nil l c)
held_read h exhibit l ok bytes (Ok log) e c = elim (bool_cases (says_it_is_of h exhibit.general log)) [
  | inl t ↦
      let one : HeldLog = record { general = exhibit.general; bytes = exhibit.bytes; log = log } in
      let c1 : Contains (one ∷ []) l = rw t at c in
      elim (Contains_cases one l [] c1) [
        | inr k ↦ absurd (Contains_nil l k)
        | inl same ↦
            let f = log_found h ok.network.ranges.few_orders exhibit.bytes log (are_bytes exhibit.bytes bytes) e in
            let t2 = both (pointwise nat_eq log.run_id (run_id_of h)) (starts_as exhibit.general log.entries) t in
            let says : SaysItIsOf h exhibit.general log = record { of_run = same_text log.run_id (run_id_of h) (sym t2.0); starts = starts_known exhibit.general log.entries t2.1 } in
            subst (IsReadLog h) same (record { reads = f; says = says })
      ]
  | inr t ↦
      let c1 : Contains [] l = rw t at c in
      absurd (Contains_nil l c1)
]

pub logs_read : (h : RunHeader) (exhibits : List LogBytes) (l : HeldLog) → IsHeader h → AllBytes exhibits → Contains (logs_in h exhibits) l → IsReadLog h l
unfolding logs_in
logs_read h exhibits l ok bytes c =
    let f = Contains_flat_mapped (λ (exhibit : LogBytes). held h exhibit (log_of h exhibit.bytes)) exhibits l c in
    held_read h f.0 l ok (bytes f.0 f.1) (log_of h f.0.bytes) refl f.2

-- ---- texts

abbrev IsHis : SignedText → Type 0
IsHis t = IsTextOf t.signer t.text

chain_his : (order : ℕ) (path : List ℕ) (signers : List Signer) (t : SignedText) → Contains (texts_behind order path signers) t → IsHis t
unfolding texts_behind
chain_his order path [] t c = absurd (Contains_nil t c)
chain_his order path (s ∷ others) t c =
    elim (Contains_cases (stated order (path ++ s.general ∷ []) s.general s.signature) t (texts_behind order (path ++ s.general ∷ []) others) c) [
      | inl same ↦ subst IsHis same (path, refl)
      | inr k ↦ chain_his order (path ++ s.general ∷ []) others t k
    ]

same_last : (y z : ℕ) (path : List ℕ) → slice_get (y ∷ z ∷ path) (length (y ∷ z ∷ path) - 1) ≡ slice_get (z ∷ path) (length (z ∷ path) - 1)
same_last y z path =
    let same : length (y ∷ z ∷ path) - 1 ≡ suc (length (z ∷ path) - 1) = omega arith in
    ap (λ (n : ℕ). slice_get (y ∷ z ∷ path) n) same

last_ends : (path : List ℕ) (x : ℕ) → slice_get path (length path - 1) ≡ Some x → EndsWith path x
last_ends [] x e = absurd cc
last_ends (y ∷ []) x e = let same : y ≡ x = cc in ([], ap (λ (z : ℕ). z ∷ []) same)
last_ends (y ∷ z ∷ path) x e = let there = last_ends (z ∷ path) x (sym (same_last y z path) ∙ e) in (y ∷ there.0, ap (λ (p : List ℕ). y ∷ p) there.1)

under_his : (order : ℕ) (path signature : List ℕ) (last : Option ℕ) (t : SignedText) → slice_get path (length path - 1) ≡ last → Contains (text_under order path signature last) t → IsHis t
under_his order path signature None t e c = absurd (Contains_nil t c)
under_his order path signature (Some last) t e c = elim (Contains_cases (stated order path last signature) t [] c) [
  | inl same ↦ subst IsHis same (last_ends path last e)
  | inr k ↦ absurd (Contains_nil t k)
]

pub entry_his : (e : Entry) (t : SignedText) → Contains (signed.texts_in e) t → IsHis t
entry_his (Start general own) t c = absurd (Contains_nil t c)
entry_his (Sign order path signature) t c = under_his order path signature (slice_get path (length path - 1)) t refl c
entry_his (Send to order path) t c = absurd (Contains_nil t c)
entry_his (Recv from chain) t c = chain_his chain.order [] chain.signers t c
entry_his (Decide orders order) t c = absurd (Contains_nil t c)

log_his : (h : RunHeader) (l : HeldLog) (t : SignedText) → Contains (flat_map signed.texts_in l.log.entries ++ head_in h l.general l.log ∷ []) t → IsHis t
log_his h l t c =
    elim (Contains-append_cases (flat_map signed.texts_in l.log.entries) (head_in h l.general l.log ∷ []) t c) [
      | inl k ↦
          let f = Contains_flat_mapped signed.texts_in l.log.entries t k in
          entry_his f.0 t f.2
      | inr k ↦ elim (Contains_cases (head_in h l.general l.log) t [] k) [
        | inl same ↦ subst IsHis same refl
        | inr none ↦ absurd (Contains_nil t none)
      ]
    ]

stands : (h : RunHeader) (signer : ℕ) (text : Text) (signature : List ℕ) → is_right h signer text signature ≡ true → HasSignedText h signer text signature
stands h signer (OfStatement s) signature e = signed_has h signer s signature e
stands h signer (OfHead head) signature e = under_has (root_of h signer) (height_of h) (leaf_of_head h) (head_digest h head) signature e

pub texts_verify : TextsVerify
unfolding texts_of texts_in
texts_verify h exhibits general text ok bytes c =
    let by = Contains_filtered (is_by general) (texts_in h exhibits) text c in
    let f = Contains_flat_mapped (log_texts h) (logs_in h exhibits) text by.0 in
    let v = Contains_filtered (text_verifies h) (flat_map signed.texts_in f.0.log.entries ++ head_in h f.0.general f.0.log ∷ []) text f.2 in
    let signer : text.signer ≡ general = eqb-true text.signer general by.1 in
    record {
      signer = signer;
      his = subst (λ (g : ℕ). IsTextOf g text.text) signer (log_his h f.0 text v.0);
      stands = subst (λ (g : ℕ). HasSignedText h g text.text text.signature) signer (stands h text.signer text.text text.signature v.1);
    }

-- ---- the claim that is made

sealed : (h : RunHeader) (exhibits : List LogBytes) (general : ℕ) (bytes : List ℕ) (l : HeldLog) → IsHeader h → AllBytes exhibits → bytes ≡ l.bytes → Contains (logs_of h exhibits general) l → HeadVerifies h l.general l.log → (l.general ≡ general) × IsSealedLogOf h general bytes l.log
unfolding logs_of
sealed h exhibits general bytes l ok all same c head =
    let f = Contains_filtered (is_his general) (logs_in h exhibits) l c in
    let is = logs_read h exhibits l ok all f.0 in
    let g : l.general ≡ general = eqb-true l.general general f.1 in
    let of_l : IsSealedLogOf h l.general l.bytes l.log = record { reads = is.reads; says = is.says; sealed = head } in
    (g, subst (λ (x : ℕ). IsSealedLogOf h x bytes l.log) g (subst (λ (bs : List ℕ). IsSealedLogOf h l.general bs l.log) (sym same) of_l))

pub first_in : {X : Type 0} (P : X → Type 0) (xs : List X) (x : X) → IsFirst P xs x → Contains xs x
first_in P xs x f = subst (λ ys. Contains ys x) (sym f.split) (Contains-middle f.before x f.after)

pub pair_in : {X : Type 0} (R : X → X → Type 0) (xs : List X) (x y : X) → IsFirstPair R xs x y → Contains xs x × Contains xs y
pair_in R xs x y p = (
  subst (λ ys. Contains ys x) (sym p.split) (Contains-middle p.before x (p.between ++ y ∷ p.after)),
  subst (λ ys. Contains ys y) (sym p.split) (Contains-append_right p.before (x ∷ (p.between ++ y ∷ p.after)) y (Contains_there x y (p.between ++ y ∷ p.after) (Contains-middle p.between y p.after))),
)

pub kind_holds : (h : RunHeader) (exhibits : List LogBytes) (general : ℕ) (claim : Claim) → IsHeader h → AllBytes exhibits → IsFirstOfKind h exhibits general claim → IsContradiction h general claim
kind_holds h exhibits general (TwoTexts x y) ok all f =
    let c = pair_in AreDifferent (texts_of h exhibits general) x y f in
    record { one = texts_verify h exhibits general x ok all c.0; other = texts_verify h exhibits general y ok all c.1; different = f.holds }
kind_holds h exhibits general (TwoOrders v a w b) ok all f =
    let c = pair_in AreOrders (texts_of h exhibits general) (command v a) (command w b) f.1 in
    record { commander = f.0; one = texts_verify h exhibits general (command v a) ok all c.0; other = texts_verify h exhibits general (command w b) ok all c.1; different = f.1.holds.2 }
kind_holds h exhibits general (MissingFromLog bytes s signature) ok all f =
    let c = first_in (LacksSome h (texts_of h exhibits general)) (logs_of h exhibits general) f.0 f.2 in
    let k = sealed h exhibits general bytes f.0 ok all f.1 c f.2.holds.0 in
    let t = first_in (IsMissing f.0.log) (texts_of h exhibits general) (stated s.order s.path general signature) f.3 in
    record { log = f.0.log; his = k.1; verifies = texts_verify h exhibits general (stated s.order s.path general signature) ok all t; missing = f.3.holds }
kind_holds h exhibits general (DepartingLog bytes p) ok all f =
    let c = first_in (DepartsSomewhere h) (logs_of h exhibits general) f.0 f.2 in
    let k = sealed h exhibits general bytes f.0 ok all f.1 c f.3.0 in
    record { log = f.0.log; his = k.1; departs = subst (λ (g : ℕ). DepartsAt h.network g (erased f.0.log.entries) p) k.0 f.3.1 }
kind_holds h exhibits general (AcrossRuns x y) ok all f = absurd f

pub first_holds : FirstHolds
first_holds h exhibits general claim ok all f = kind_holds h exhibits general claim ok all f.first
