-- What is found against a general is the first claim.
use Rattle.std.proofs.Common.{◌≡◌, ℕ, ◌<◌, ◌≤◌, ◌^◌, Bool, true, ◌&&◌, cond, eqb, nat_lt, Result, Option, Some, None, List, [], ◌∷◌, ◌++◌, length, length-append, map, filter, Contains, refl, sym, ap, subst, ◌∙◌, inl, inr, arith}
use Rattle.std.specs.List.{find, flat_map}
use Rattle.std.specs.Option.{option_or, is_some}
use Rattle.std.proofs.lemmas.Bool.{eqb-true, lt-ltb}
use Rattle.gen_types.proofs.Lists.{Contains-middle, Contains_here, Contains_there, Contains_cases, Contains_nil, Contains_filtered, not_nil}
use Rattle.gen_net.specs.Header.{RunHeader, IsHeader}
use Rattle.gen_chain.specs.declared.statements.Statement.{Statement}
use Rattle.gen_chain.proofs.TestedChains.{both}
use Rattle.gen_log.specs.declared.entries.Entry.{Entry}
use Rattle.gen_log.specs.declared.entries.Entry.TheVariants.{Start, Sign, Send, Recv, Decide}
use Rattle.gen_log.specs.declared.fault.LogFault.{LogFault}
use Rattle.gen_log.specs.Entry.{entry_spelling}
use Rattle.gen_log.specs.Log.{RunLog, log_spelling}
use Rattle.gen_log.specs.LogReading.{log_of}
use Rattle.gen_log.proofs.LogLaws.{log_found}
use Rattle.gen_log.proofs.NextEntries.{are_bytes}
use Rattle.std.specs.Int.{w64, to_be_bytes}
use Rattle.gen_local.specs.declared.reading.Reading.{Reading}
use Rattle.gen_local.specs.declared.reading.Reading.TheVariants.{Unreadable, Foreign, Own}
use Rattle.gen_local.specs.declared.texts.SignedText.{SignedText}
use Rattle.gen_local.specs.declared.texts.Text.{Text}
use Rattle.gen_local.specs.declared.texts.Text.TheVariants.{OfStatement, OfHead}
use Rattle.gen_local.specs.Erased.{erased}
use Rattle.gen_local.specs.Report.{LocalReport, IsReading}
use Rattle.gen_log.specs.Writing.{LogBytes}
use Rattle.gen_local.specs.SignedTexts.{stated}
use Rattle.gen_convict.specs.Accused.{AreDifferent, command}
use Rattle.gen_convict.specs.Contradictions.{Claim, TwoTexts, TwoOrders, MissingFromLog, DepartingLog, AcrossRuns}
use Rattle.gen_convict.specs.Convictions.{shown_in, AreShort}
use Rattle.gen_convict.specs.Exhibits.{HeldLog, is_by, is_his, texts_of, texts_in, logs_of}
use Rattle.gen_convict.specs.Finding.{his_texts, one_each, is_unsaid}
use Rattle.gen_convict.specs.FindingClaims.{texts_claim, orders_claim, unsaid_in, lacks, missing_of, missing_as, missing_in, missing_claim, departure_in, departs, departing_at, departing_in, departing_claim, claim_for}
use Rattle.gen_convict.specs.First.{AreOrders, IsMissing, LacksSome, IsDeparting, DepartsSomewhere, IsFirstOfKind, kind_of, IsFirstClaim}
use Rattle.gen_convict.specs.Firsts.{IsFirst, IsFirstPair}
use Rattle.gen_convict.specs.PairLaws.{NoTwoTexts}
use Rattle.gen_convict.proofs.FindFirst.{find_first, find_in, find_same, flat_first, flat_none}
use Rattle.gen_convict.proofs.FoundLogs.{AreOf, own_of, log_in, found_is, his_log, his_logs_are, his_texts_are, some_of, under, unsaid_own, his_own, lack_singles, departure_own, depart_singles}
use Rattle.gen_convict.proofs.FoundTexts.{AreBy, IsTextsClaim, IsOrdersClaim, NoOrders, texts_found, texts_none, orders_found, orders_none, unsaid_of_each, unsaid_tests}
use Rattle.gen_convict.proofs.Holding.{first_in, pair_in}

-- ---- a statement that is missing

unsaid_each : (texts : List SignedText) → NoTwoTexts texts → (reading : Reading) → unsaid_in (one_each [] texts) reading ≡ unsaid_in texts reading
unsaid_each texts none (Own found) = ap (λ o. cond found.sealed o None) (unsaid_of_each texts found.log none)
unsaid_each texts none (Unreadable fault) = refl
unsaid_each texts none Foreign = refl

missing_same : (texts : List SignedText) → NoTwoTexts texts → (o : Option LocalReport) → missing_in (one_each [] texts) o ≡ missing_in texts o
missing_same texts none None = refl
missing_same texts none (Some r) = ap (missing_as r.exhibit.bytes) (unsaid_each texts none r.reading)

missing_each : (general : ℕ) (texts : List SignedText) (reports : List LocalReport) → NoTwoTexts texts → missing_claim general (one_each [] texts) reports ≡ missing_claim general texts reports
missing_each general texts reports none =
    ap (missing_in (one_each [] texts)) (find_same (lacks general (one_each [] texts)) (lacks general texts) (λ r. ap (λ o. eqb r.exhibit.general general && is_some o) (unsaid_each texts none r.reading)) reports)
    ∙ missing_same texts none (find (lacks general texts) reports)

-- the claim is by this log, and by the first text that is missing from it
abbrev IsMissingBy : ℕ → List SignedText → HeldLog → Claim → Type 0
IsMissingBy general texts l claim =
    (bytes : List ℕ) × (s : Statement) × (signature : List ℕ) × (claim ≡ MissingFromLog bytes s signature) × (bytes ≡ l.bytes)
    × IsFirst (IsMissing l.log) texts (stated s.order s.path general signature)

missing_text : (general : ℕ) (texts : List SignedText) (l : HeldLog) (t : SignedText) (text : Text) (claim : Claim) → t.text ≡ text → t.signer ≡ general → IsFirst (IsMissing l.log) texts t → missing_of l.bytes t.signature text ≡ Some claim → IsMissingBy general texts l claim
missing_text general texts l t (OfStatement s) claim is by f e =
    let same : MissingFromLog l.bytes s t.signature ≡ claim = cc in
    let t_is : t ≡ stated s.order s.path general t.signature = λ i. record { signer = by i; text = is i; signature = t.signature } in
    (l.bytes, s, t.signature, sym same, refl, subst (IsFirst (IsMissing l.log) texts) t_is f)
missing_text general texts l t (OfHead s) claim is by f e = absurd cc

missing_one : (general : ℕ) (texts : List SignedText) (claim : Claim) (exhibit : LogBytes) (reading : Reading) (l : HeldLog) → AreBy general texts → filter (is_his general) (log_in exhibit reading) ≡ l ∷ [] → (o : Option SignedText) → unsaid_in texts reading ≡ o → missing_as exhibit.bytes o ≡ Some claim → IsMissingBy general texts l claim
missing_one general texts claim exhibit (Unreadable fault) l by one o u e = absurd (not_nil [] l [] (sym one))
missing_one general texts claim exhibit Foreign l by one o u e = absurd (not_nil [] l [] (sym one))
missing_one general texts claim exhibit (Own found) l by one None u e = absurd cc
missing_one general texts claim exhibit (Own found) l by one (Some t) u e =
    let own = his_own general exhibit found l (subst (λ ls. Contains ls l) (sym one) (Contains_here l [])) in
    let k = unsaid_own texts found t u in
    let f = find_first (IsMissing found.log) (λ x. is_unsaid found.log x.text) (unsaid_tests found.log) texts t k.1 in
    let inside = find_in (λ x. is_unsaid found.log x.text) texts t k.1 in
    subst (λ (m : HeldLog). IsMissingBy general texts m claim) own.1 (missing_text general texts (own_of exhibit found) t t.text claim refl (by t inside.0) f e)

-- the claim is by the first log of the list that lacks some
abbrev IsMissingClaim : RunHeader → ℕ → List SignedText → List HeldLog → Claim → Type 0
IsMissingClaim h general texts logs claim =
    (l : HeldLog) × IsFirst (LacksSome h texts) logs l × IsMissingBy general texts l claim

some_missing : (bytes : List ℕ) (texts : List SignedText) (log : RunLog) (t : SignedText) (text : Text) → is_unsaid log text ≡ true → missing_of bytes t.signature text ≡ None → ⊥
some_missing bytes texts log t (OfStatement s) is e = absurd cc
some_missing bytes texts log t (OfHead s) is e = absurd cc

must_be : (bytes : List ℕ) (texts : List SignedText) (reading : Reading) (t : SignedText) → unsaid_in texts reading ≡ Some t → missing_of bytes t.signature t.text ≡ None → ⊥
must_be bytes texts (Unreadable fault) t u e = absurd cc
must_be bytes texts Foreign t u e = absurd cc
must_be bytes texts (Own found) t u e =
    let inside = find_in (λ x. is_unsaid found.log x.text) texts t (unsaid_own texts found t u).1 in
    some_missing bytes texts found.log t t.text inside.1 e

module _ (h : RunHeader) (reports : List LocalReport) (general : ℕ) (are : AreOf h reports) (texts : List SignedText) (by : AreBy general texts) where
  missing_found : (claim : Claim) (r : Option LocalReport) → find (lacks general texts) reports ≡ r → missing_in texts r ≡ Some claim → IsMissingClaim h general texts (flat_map (his_log general) reports) claim
  missing_found claim None found e = absurd cc
  missing_found claim (Some r) found e =
      let f = flat_first (LacksSome h texts) (lacks general texts) (his_log general) reports (λ x c. lack_singles h texts general x (are.reads x c)) r found in
      (f.0, f.2, missing_one general texts claim r.exhibit r.reading f.0 by f.1 (unsaid_in texts r.reading) refl e)

  missing_none : (r : Option LocalReport) → find (lacks general texts) reports ≡ r → missing_in texts r ≡ None → (l : HeldLog) → Contains (flat_map (his_log general) reports) l → LacksSome h texts l → ⊥
  missing_none None found e = flat_none (LacksSome h texts) (lacks general texts) (his_log general) reports (λ x c. lack_singles h texts general x (are.reads x c)) found
  missing_none (Some r) found e =
      let inside = find_in (lacks general texts) reports r found in
      let p = both (eqb r.exhibit.general general) (is_some (unsaid_in texts r.reading)) inside.1 in
      let s = some_of (unsaid_in texts r.reading) p.1 in
      absurd (must_be r.exhibit.bytes texts r.reading s.0 s.1 (sym (ap (missing_as r.exhibit.bytes) s.1) ∙ e))

-- ---- a log that departs

-- the claim is by this log, and by the entry at which it departs
abbrev IsDepartingBy : RunHeader → HeldLog → Claim → Type 0
IsDepartingBy h l claim =
    (bytes : List ℕ) × (p : ℕ) × (claim ≡ DepartingLog bytes p) × (bytes ≡ l.bytes) × IsDeparting h l p

four_bytes : (bytes : List ℕ) (p : ℕ) (claim : Claim) → departing_at bytes (Some p) ≡ Some claim → claim ≡ DepartingLog bytes p
four_bytes bytes p claim e =
    let u = under (nat_lt p (2 ^ 32)) (Some (DepartingLog bytes p)) claim e in
    let same : DepartingLog bytes p ≡ claim = some_same (DepartingLog bytes p) claim u.1 in
    sym same
  where
    some_same : (a b : Claim) → Some a ≡ Some b → a ≡ b
    some_same a b e = cc

departing_one : (h : RunHeader) (general : ℕ) (claim : Claim) (exhibit : LogBytes) (read : Result RunLog LogFault) (reading : Reading) (l : HeldLog) → IsReading h exhibit.general read reading → filter (is_his general) (log_in exhibit reading) ≡ l ∷ [] → (o : Option ℕ) → departure_in reading ≡ o → departing_at exhibit.bytes o ≡ Some claim → IsDepartingBy h l claim
departing_one h general claim exhibit read (Unreadable fault) l is one o u e = absurd (not_nil [] l [] (sym one))
departing_one h general claim exhibit read Foreign l is one o u e = absurd (not_nil [] l [] (sym one))
departing_one h general claim exhibit read (Own found) l is one None u e = absurd cc
departing_one h general claim exhibit read (Own found) l is one (Some p) u e =
    let own = his_own general exhibit found l (subst (λ ls. Contains ls l) (sym one) (Contains_here l [])) in
    let d = departure_own h exhibit.general found p (found_is h exhibit.general read found is).0 u in
    subst (λ (m : HeldLog). IsDepartingBy h m claim) own.1 (exhibit.bytes, p, four_bytes exhibit.bytes p claim e, refl, d)

abbrev IsDepartingClaim : RunHeader → List HeldLog → Claim → Type 0
IsDepartingClaim h logs claim = (l : HeldLog) × IsFirst (DepartsSomewhere h) logs l × IsDepartingBy h l claim

some_bytes : (e : Entry) → 1 ≤ length (entry_spelling e)
some_bytes (Start general own) = omega arith
some_bytes (Sign order path signature) = omega arith
some_bytes (Send to order path) = omega arith
some_bytes (Recv from chain) = omega arith
some_bytes (Decide orders order) = omega arith

as_many_bytes : (es : List Entry) → length es ≤ length (flat_map entry_spelling es)
as_many_bytes [] = omega arith
as_many_bytes (e ∷ es) = omega (arith, as_many_bytes es, length-append (entry_spelling e) (flat_map entry_spelling es), some_bytes e)

pub log_longer : (log : RunLog) → length log.entries ≤ length (log_spelling log)
log_longer log =
    let n = to_be_bytes w64 (length log.entries) in
    let es = flat_map entry_spelling log.entries in
    omega (arith, as_many_bytes log.entries, length-append log.run_id (n ++ (es ++ log.head)), length-append n (es ++ log.head), length-append es log.head)

pub length_erased : (es : List Entry) → length (erased es) ≡ length es
length_erased [] = refl
length_erased (e ∷ es) = omega (arith, length_erased es)

pub mapped : {X Y : Type 0} (f : X → Y) (xs : List X) (x : X) → Contains xs x → Contains (map f xs) (f x)
mapped f [] x c = absurd (Contains_nil x c)
mapped f (y ∷ ys) x c = elim (Contains_cases y x ys c) [
  | inl e ↦ subst (λ z. Contains (f y ∷ map f ys) z) (ap f e) (Contains_here (f y) (map f ys))
  | inr k ↦ Contains_there (f y) (f x) (map f ys) (mapped f ys x k)
]

-- in a short exhibit the entry's number has four bytes
few_entries : (h : RunHeader) (r : LocalReport) (reading : Reading) (p : ℕ) → IsHeader h → AreOf h (r ∷ []) → length r.exhibit.bytes < 2 ^ 32 → r.reading ≡ reading → departure_in reading ≡ Some p → p < 2 ^ 32
few_entries h r (Unreadable fault) p ok are short is e = absurd cc
few_entries h r Foreign p ok are short is e = absurd cc
few_entries h r (Own found) p ok are short is e =
    let reads = subst (IsReading h r.exhibit.general (log_of h r.exhibit.bytes)) is (are.reads r (Contains_here r [])) in
    let f = found_is h r.exhibit.general (log_of h r.exhibit.bytes) found reads in
    let d = departure_own h r.exhibit.general found p f.0 e in
    let s = log_found h ok.network.ranges.few_orders r.exhibit.bytes found.log (are_bytes r.exhibit.bytes (are.bytes r (Contains_here r []))) f.1 in
    omega (arith, d.1.0, length_erased found.log.entries, log_longer found.log, ap length s.spelled, short)

alone_of : (h : RunHeader) (reports : List LocalReport) (r : LocalReport) → AreOf h reports → Contains reports r → AreOf h (r ∷ [])
alone_of h reports r are c = record {
  reads = λ x k. are.reads x (inside x k);
  bytes = λ x k. are.bytes x (inside x k);
}
  where
    inside : (x : LocalReport) → Contains (r ∷ []) x → Contains reports x
    inside x k = elim (Contains_cases r x [] k) [ inl e ↦ subst (Contains reports) e c | inr none ↦ absurd (Contains_nil x none) ]

none_at : (bytes : List ℕ) (p : ℕ) → p < 2 ^ 32 → departing_at bytes (Some p) ≡ None → ⊥
none_at bytes p l e =
    let below : nat_lt p (2 ^ 32) ≡ true = lt-ltb p (2 ^ 32) l in
    some_none (DepartingLog bytes p) (sym (ap (λ (c : Bool). cond c (Some (DepartingLog bytes p)) None) below) ∙ e)
  where
    some_none : (a : Claim) → Some a ≡ None → ⊥
    some_none a e = absurd cc

module _ (h : RunHeader) (reports : List LocalReport) (general : ℕ) (are : AreOf h reports) where
  departing_found : (claim : Claim) (r : Option LocalReport) → find (departs general) reports ≡ r → departing_in r ≡ Some claim → IsDepartingClaim h (flat_map (his_log general) reports) claim
  departing_found claim None found e = absurd cc
  departing_found claim (Some r) found e =
      let f = flat_first (DepartsSomewhere h) (departs general) (his_log general) reports (λ x c. depart_singles h general x (are.reads x c)) r found in
      let inside = find_in (departs general) reports r found in
      (f.0, f.2, departing_one h general claim r.exhibit (log_of h r.exhibit.bytes) r.reading f.0 (are.reads r inside.0) f.1 (departure_in r.reading) refl e)

  departing_none : IsHeader h → AreShort (shown_in reports) → (r : Option LocalReport) → find (departs general) reports ≡ r → departing_in r ≡ None → (l : HeldLog) → Contains (flat_map (his_log general) reports) l → DepartsSomewhere h l → ⊥
  departing_none ok short None found e = flat_none (DepartsSomewhere h) (departs general) (his_log general) reports (λ x c. depart_singles h general x (are.reads x c)) found
  departing_none ok short (Some r) found e =
      let inside = find_in (departs general) reports r found in
      let p = both (eqb r.exhibit.general general) (is_some (departure_in r.reading)) inside.1 in
      let s = some_of (departure_in r.reading) p.1 in
      let few = few_entries h r r.reading s.0 ok (alone_of h reports r are inside.0) (short r.exhibit (mapped (λ (x : LocalReport). x.exhibit) reports r inside.0)) refl s.1 in
      absurd (none_at r.exhibit.bytes s.0 few (sym (ap (departing_at r.exhibit.bytes) s.1) ∙ e))

-- ---- the claim of the least kind

at_least_1 : (c : Claim) → 1 ≤ kind_of c
at_least_1 (TwoTexts x y) = omega arith
at_least_1 (TwoOrders v a w b) = omega arith
at_least_1 (MissingFromLog bytes s a) = omega arith
at_least_1 (DepartingLog bytes p) = omega arith
at_least_1 (AcrossRuns x y) = omega arith

module _ (h : RunHeader) (reports : List LocalReport) (general : ℕ) (are : AreOf h reports) where
  abbrev Texts : List SignedText
  Texts = his_texts general reports

  abbrev Logs : List HeldLog
  Logs = flat_map (his_log general) reports

  abbrev Made : Claim → Type 0
  Made claim = IsFirstOfKind h (shown_in reports) general claim

  texts_same : texts_of h (shown_in reports) general ≡ Texts
  texts_same = his_texts_are h reports general are

  logs_same : logs_of h (shown_in reports) general ≡ Logs
  logs_same = his_logs_are h reports general are

  are_by : AreBy general Texts
  unfolding texts_of
  are_by t c =
      let c1 : Contains (texts_of h (shown_in reports) general) t = subst (λ xs. Contains xs t) (sym texts_same) c in
      eqb-true t.signer general (Contains_filtered (is_by general) (texts_in h (shown_in reports)) t c1).1

  not_texts : NoTwoTexts Texts → (x y : SignedText) → Made (TwoTexts x y) → ⊥
  not_texts none x y made =
      let p : IsFirstPair AreDifferent Texts x y = subst (λ xs. IsFirstPair AreDifferent xs x y) texts_same made in
      none p.before (p.between ++ y ∷ p.after) x y p.split (Contains-middle p.between y p.after) p.holds

  not_orders : (general ≡ 0 → NoOrders Texts) → (v : ℕ) (a : List ℕ) (w : ℕ) (b : List ℕ) → Made (TwoOrders v a w b) → ⊥
  not_orders none v a w b made =
      let p : IsFirstPair AreOrders Texts (command v a) (command w b) = subst (λ xs. IsFirstPair AreOrders xs (command v a) (command w b)) texts_same made.1 in
      let c = pair_in AreOrders Texts (command v a) (command w b) p in
      none made.0 (command v a) (command w b) c.0 c.1 p.holds

  not_missing : ((l : HeldLog) → Contains Logs l → LacksSome h Texts l → ⊥) → (bytes : List ℕ) (s : Statement) (a : List ℕ) → Made (MissingFromLog bytes s a) → ⊥
  not_missing none bytes s a made =
      let f : IsFirst (LacksSome h Texts) (logs_of h (shown_in reports) general) made.0 = subst (λ xs. IsFirst (LacksSome h xs) (logs_of h (shown_in reports) general) made.0) texts_same made.2 in
      let g : IsFirst (LacksSome h Texts) Logs made.0 = subst (λ ls. IsFirst (LacksSome h Texts) ls made.0) logs_same f in
      none made.0 (first_in (LacksSome h Texts) Logs made.0 g) g.holds

  not_departing : ((l : HeldLog) → Contains Logs l → DepartsSomewhere h l → ⊥) → (bytes : List ℕ) (p : ℕ) → Made (DepartingLog bytes p) → ⊥
  not_departing none bytes p made =
      let g : IsFirst (DepartsSomewhere h) Logs made.0 = subst (λ ls. IsFirst (DepartsSomewhere h) ls made.0) logs_same made.2 in
      none made.0 (first_in (DepartsSomewhere h) Logs made.0 g) g.holds

  at_least_2 : NoTwoTexts Texts → (c : Claim) → Made c → 2 ≤ kind_of c
  at_least_2 n1 (TwoTexts x y) made = absurd (not_texts n1 x y made)
  at_least_2 n1 (TwoOrders v a w b) made = omega arith
  at_least_2 n1 (MissingFromLog bytes s a) made = omega arith
  at_least_2 n1 (DepartingLog bytes p) made = omega arith
  at_least_2 n1 (AcrossRuns x y) made = omega arith

  at_least_3 : NoTwoTexts Texts → (general ≡ 0 → NoOrders Texts) → (c : Claim) → Made c → 3 ≤ kind_of c
  at_least_3 n1 n2 (TwoTexts x y) made = absurd (not_texts n1 x y made)
  at_least_3 n1 n2 (TwoOrders v a w b) made = absurd (not_orders n2 v a w b made)
  at_least_3 n1 n2 (MissingFromLog bytes s a) made = omega arith
  at_least_3 n1 n2 (DepartingLog bytes p) made = omega arith
  at_least_3 n1 n2 (AcrossRuns x y) made = omega arith

  at_least_4 : NoTwoTexts Texts → (general ≡ 0 → NoOrders Texts) → ((l : HeldLog) → Contains Logs l → LacksSome h Texts l → ⊥) → (c : Claim) → Made c → 4 ≤ kind_of c
  at_least_4 n1 n2 n3 (TwoTexts x y) made = absurd (not_texts n1 x y made)
  at_least_4 n1 n2 n3 (TwoOrders v a w b) made = absurd (not_orders n2 v a w b made)
  at_least_4 n1 n2 n3 (MissingFromLog bytes s a) made = absurd (not_missing n3 bytes s a made)
  at_least_4 n1 n2 n3 (DepartingLog bytes p) made = omega arith
  at_least_4 n1 n2 n3 (AcrossRuns x y) made = omega arith

  abbrev IsMade : Claim → Type 0
  IsMade claim = IsFirstClaim h (shown_in reports) general claim

  made_texts : (claim : Claim) → IsTextsClaim Texts claim → IsMade claim
  made_texts claim k =
      let first : Made (TwoTexts k.0 k.1) = subst (λ xs. IsFirstPair AreDifferent xs k.0 k.1) (sym texts_same) k.3 in
      subst IsMade (sym k.2) (record { first = first; least = λ other o. at_least_1 other })

  made_orders : NoTwoTexts Texts → (claim : Claim) → IsOrdersClaim general Texts claim → IsMade claim
  made_orders n1 claim (v, a, w, b, is, commander, pair) =
      let first : Made (TwoOrders v a w b) = (commander, subst (λ xs. IsFirstPair AreOrders xs (command v a) (command w b)) (sym texts_same) pair) in
      subst IsMade (sym is) (record { first = first; least = at_least_2 n1 })

  made_missing : NoTwoTexts Texts → (general ≡ 0 → NoOrders Texts) → (claim : Claim) → IsMissingClaim h general Texts Logs claim → IsMade claim
  made_missing n1 n2 claim (l, log, (bytes, s, a, is, same, text)) =
      let f : IsFirst (LacksSome h (texts_of h (shown_in reports) general)) Logs l = subst (λ xs. IsFirst (LacksSome h xs) Logs l) (sym texts_same) log in
      let g : IsFirst (LacksSome h (texts_of h (shown_in reports) general)) (logs_of h (shown_in reports) general) l = subst (λ ls. IsFirst (LacksSome h (texts_of h (shown_in reports) general)) ls l) (sym logs_same) f in
      let t : IsFirst (IsMissing l.log) (texts_of h (shown_in reports) general) (stated s.order s.path general a) = subst (λ xs. IsFirst (IsMissing l.log) xs (stated s.order s.path general a)) (sym texts_same) text in
      let first : Made (MissingFromLog bytes s a) = (l, same, g, t) in
      subst IsMade (sym is) (record { first = first; least = at_least_3 n1 n2 })

  made_departing : NoTwoTexts Texts → (general ≡ 0 → NoOrders Texts) → ((l : HeldLog) → Contains Logs l → LacksSome h Texts l → ⊥) → (claim : Claim) → IsDepartingClaim h Logs claim → IsMade claim
  made_departing n1 n2 n3 claim (l, log, (bytes, p, is, same, at)) =
      let g : IsFirst (DepartsSomewhere h) (logs_of h (shown_in reports) general) l = subst (λ ls. IsFirst (DepartsSomewhere h) ls l) (sym logs_same) log in
      let first : Made (DepartingLog bytes p) = (l, same, g, at) in
      subst IsMade (sym is) (record { first = first; least = at_least_4 n1 n2 n3 })

  -- where no claim of the kind is found there is none
  none_1 : texts_claim (one_each [] Texts) Texts ≡ None → NoTwoTexts Texts
  none_1 e = texts_none Texts e

  none_2 : orders_claim general Texts ≡ None → general ≡ 0 → NoOrders Texts
  none_2 e zero_is = orders_none general Texts zero_is e

  none_3 : NoTwoTexts Texts → missing_claim general (one_each [] Texts) reports ≡ None → (l : HeldLog) → Contains Logs l → LacksSome h Texts l → ⊥
  none_3 n1 e = missing_none h reports general are Texts are_by (find (lacks general Texts) reports) refl (sym (missing_each general Texts reports n1) ∙ e)

  by_kinds : (claim : Claim) (o1 : Option Claim) → texts_claim (one_each [] Texts) Texts ≡ o1 → (o2 : Option Claim) → orders_claim general Texts ≡ o2 → (o3 : Option Claim) → missing_claim general (one_each [] Texts) reports ≡ o3 → (o4 : Option Claim) → departing_claim general reports ≡ o4 → option_or o1 (option_or o2 (option_or o3 o4)) ≡ Some claim → IsMade claim
  by_kinds claim (Some c) e1 o2 e2 o3 e3 o4 e4 e =
      made_texts claim (texts_found Texts claim (e1 ∙ e))
  by_kinds claim None e1 (Some c) e2 o3 e3 o4 e4 e =
      made_orders (none_1 e1) claim (orders_found general Texts claim are_by (e2 ∙ e))
  by_kinds claim None e1 None e2 (Some c) e3 o4 e4 e =
      made_missing (none_1 e1) (none_2 e2) claim (missing_found h reports general are Texts are_by claim (find (lacks general Texts) reports) refl (sym (missing_each general Texts reports (none_1 e1)) ∙ (e3 ∙ e)))
  by_kinds claim None e1 None e2 None e3 o4 e4 e =
      made_departing (none_1 e1) (none_2 e2) (none_3 (none_1 e1) e3) claim (departing_found h reports general are claim (find (departs general) reports) refl (e4 ∙ e))

  pub claim_found : (claim : Claim) → claim_for reports general ≡ Some claim → IsMade claim
  unfolding claim_for
  claim_found claim e =
      by_kinds claim (texts_claim (one_each [] Texts) Texts) refl (orders_claim general Texts) refl (missing_claim general (one_each [] Texts) reports) refl (departing_claim general reports) refl e

  by_none : IsHeader h → AreShort (shown_in reports) → (o1 : Option Claim) → texts_claim (one_each [] Texts) Texts ≡ o1 → (o2 : Option Claim) → orders_claim general Texts ≡ o2 → (o3 : Option Claim) → missing_claim general (one_each [] Texts) reports ≡ o3 → (o4 : Option Claim) → departing_claim general reports ≡ o4 → option_or o1 (option_or o2 (option_or o3 o4)) ≡ None → (claim : Claim) → Made claim → ⊥
  by_none ok short (Some c) e1 o2 e2 o3 e3 o4 e4 e claim made = absurd cc
  by_none ok short None e1 (Some c) e2 o3 e3 o4 e4 e claim made = absurd cc
  by_none ok short None e1 None e2 (Some c) e3 o4 e4 e claim made = absurd cc
  by_none ok short None e1 None e2 None e3 o4 e4 e (TwoTexts x y) made = not_texts (none_1 e1) x y made
  by_none ok short None e1 None e2 None e3 o4 e4 e (TwoOrders v a w b) made = not_orders (none_2 e2) v a w b made
  by_none ok short None e1 None e2 None e3 o4 e4 e (MissingFromLog bytes s a) made = not_missing (none_3 (none_1 e1) e3) bytes s a made
  by_none ok short None e1 None e2 None e3 o4 e4 e (DepartingLog bytes p) made =
      not_departing (departing_none h reports general are ok short (find (departs general) reports) refl (e4 ∙ e)) bytes p made
  by_none ok short None e1 None e2 None e3 o4 e4 e (AcrossRuns x y) made = absurd made

  pub claim_none : IsHeader h → AreShort (shown_in reports) → claim_for reports general ≡ None → (claim : Claim) → IsMade claim → ⊥
  unfolding claim_for
  claim_none ok short e claim made =
      by_none ok short (texts_claim (one_each [] Texts) Texts) refl (orders_claim general Texts) refl (missing_claim general (one_each [] Texts) reports) refl (departing_claim general reports) refl e claim made.first
