-- Claims are made exactly where the exhibits hold a contradiction.
use Rattle.std.proofs.Common.{◌≡◌, ◌≢◌, ℕ, ◌+◌, ◌≤◌, ◌⊎◌, inl, inr, List, [], ◌∷◌, ◌++◌, Contains, refl, sym, ap, subst, ◌∙◌, arith, append_assoc}
use Rattle.std.proofs.lemmas.Bool.{cases_eq, eqb-true}
use Rattle.std.proofs.lemmas.List.Elements.{Contains-append_cases}
use Rattle.gen_types.proofs.Lists.{bool_cases, decide_some, split, Contains-middle, Contains_cases, Contains_filtered}
use Rattle.gen_net.specs.Departs.{DepartsAt}
use Rattle.gen_net.specs.Header.{RunHeader, IsHeader, root_of, height_of}
use Rattle.gen_chain.specs.declared.statements.Statement.{Statement}
use Rattle.gen_chain.specs.Leaves.{leaf_of_head}
use Rattle.gen_chain.specs.Texts.{head_digest}
use Rattle.gen_chain.specs.Verified.{is_under}
use Rattle.gen_chain.proofs.TestedChains.{under_has, under_gives}
use Rattle.gen_types.proofs.Front.{one_spelling_by}
use Rattle.gen_log.specs.Links.{head_over, HeadVerifies}
use Rattle.gen_log.specs.Log.{RunLog, IsLog, log_spelling}
use Rattle.gen_log.specs.LogReading.{log_at}
use Rattle.gen_log.specs.Signing.{HasSign}
use Rattle.gen_log.proofs.LogLaws.{logs_read as log_reads}
use Rattle.gen_local.specs.declared.texts.SignedText.{SignedText}
use Rattle.gen_local.specs.declared.texts.Text.{Text}
use Rattle.gen_local.specs.declared.texts.Text.TheVariants.{OfStatement, OfHead}
use Rattle.gen_local.specs.Erased.{erased}
use Rattle.gen_log.specs.Writing.{LogBytes}
use Rattle.gen_local.specs.SignedTexts.{stated}
use Rattle.gen_convict.specs.Accused.{AreDifferent, command}
use Rattle.gen_convict.specs.Contradictions.{IsSealedLogOf, Claim, TwoTexts, TwoOrders, MissingFromLog, DepartingLog, AcrossRuns, IsContradiction}
use Rattle.gen_convict.specs.Exhibits.{AllBytes, HeldLog, is_by, is_his, logs_in, logs_of, texts_in, texts_of}
use Rattle.gen_convict.specs.First.{DifferInOrder, AreOrders, IsUnsaid, IsMissing, LacksSome, DepartsSomewhere, IsFirstOfKind, kind_of, IsFirstClaim}
use Rattle.gen_convict.specs.Firsts.{IsFirst, IsFirstPair}
use Rattle.gen_convict.specs.FirstLaws.{GivenWhereHeld}
use Rattle.gen_convict.specs.Held.{HoldLog, AreHeld}
use Rattle.gen_convict.proofs.Linked.{same_or_not}
use Rattle.gen_convict.proofs.Refuted.{statement_same, has_sign_or_not}
use Rattle.gen_convict.proofs.FirstOnes.{first_or_none, NoPair, pair_or_none, differ_or_not, turned, not_itself}
use Rattle.gen_convict.proofs.Holding.{logs_read, first_in, pair_in, kind_holds}

-- two members that are related in both directions, and not the same, make a pair of the list
pub two_positions : {X : Type 0} (R : X → X → Type 0) (xs : List X) (x y : X) → NoPair R xs → Contains xs x → Contains xs y → R x y → R y x → (x ≡ y → ⊥) → ⊥
two_positions R xs x y none c d there back apart =
    let k = split xs x c in
    let d1 = subst (λ zs. Contains zs y) k.2 d in
    elim (Contains-append_cases k.0 (x ∷ k.1) y d1) [
      | inl early ↦
          let m = split k.0 y early in
          let e : xs ≡ m.0 ++ y ∷ (m.1 ++ x ∷ k.1) = k.2 ∙ ap (λ zs. zs ++ x ∷ k.1) m.2 ∙ append_assoc m.0 (y ∷ m.1) (x ∷ k.1) in
          none m.0 (m.1 ++ x ∷ k.1) y x e (Contains-middle m.1 x k.1) back
      | inr late ↦ elim (Contains_cases x y k.1 late) [
        | inl q ↦ apart q
        | inr behind ↦ none k.0 k.1 x y k.2 behind there
      ]
    ]

differ_in_order : (x y : Text) → DifferInOrder x y ⊎ (DifferInOrder x y → ⊥)
differ_in_order (OfStatement s) (OfStatement t) = elim (same_or_not s.path (0 ∷ [])) [
  | inr ne ↦ inr (λ d. ne d.0)
  | inl e0 ↦ elim (same_or_not t.path (0 ∷ [])) [
    | inr ne ↦ inr (λ d. ne d.1)
    | inl e1 ↦ elim (cases_eq s.order t.order) [ inl e ↦ inr (λ d. d.2 e) | inr ne ↦ inl (e0, e1, ne) ]
  ]
]
differ_in_order (OfStatement s) (OfHead t) = inr (λ d. d)
differ_in_order (OfHead s) (OfStatement t) = inr (λ d. d)
differ_in_order (OfHead s) (OfHead t) = inr (λ d. d)

orders_or_not : (x y : SignedText) → AreOrders x y ⊎ (AreOrders x y → ⊥)
orders_or_not x y = differ_in_order x.text y.text

unsaid_or_not : (log : RunLog) (x : Text) → IsUnsaid log x ⊎ (IsUnsaid log x → ⊥)
unsaid_or_not log (OfStatement s) = elim (has_sign_or_not log s) [ inl has ↦ inr (λ m. m has) | inr none ↦ inl none ]
unsaid_or_not log (OfHead t) = inr (λ m. m)

missing_or_not : (log : RunLog) (x : SignedText) → IsMissing log x ⊎ (IsMissing log x → ⊥)
missing_or_not log x = unsaid_or_not log x.text

head_or_not : (h : RunHeader) (g : ℕ) (log : RunLog) → HeadVerifies h g log ⊎ (HeadVerifies h g log → ⊥)
head_or_not h g log = elim (bool_cases (is_under (root_of h g) (height_of h) (leaf_of_head h) (head_digest h (head_over h g log.entries)) log.head)) [
  | inl e ↦ inl (under_has (root_of h g) (height_of h) (leaf_of_head h) (head_digest h (head_over h g log.entries)) log.head e)
  | inr e ↦ inr (λ v. let t = under_gives (root_of h g) (height_of h) (leaf_of_head h) (head_digest h (head_over h g log.entries)) log.head v in cc)
]

-- the order of a text
order_of : Text → ℕ
order_of (OfStatement s) = s.order
order_of (OfHead t) = 0

-- signed texts are the same where their parts are
pub same_text : (x y : SignedText) → x.signer ≡ y.signer → x.text ≡ y.text → x.signature ≡ y.signature → x ≡ y
same_text x y e0 e1 e2 = λ i. record { signer = e0 i; text = e1 i; signature = e2 i }

-- two orders are statements of the commander alone
commands : (x y : Text) → DifferInOrder x y → (v : ℕ) × (w : ℕ) × ((x ≡ OfStatement (record { order = v; path = 0 ∷ [] })) × (y ≡ OfStatement (record { order = w; path = 0 ∷ [] })))
commands (OfStatement s) (OfStatement t) d =
    (s.order, t.order, (ap OfStatement (statement_same s (record { order = s.order; path = 0 ∷ [] }) refl d.0), ap OfStatement (statement_same t (record { order = t.order; path = 0 ∷ [] }) refl d.1)))
commands (OfStatement s) (OfHead t) d = absurd d
commands (OfHead s) (OfStatement t) d = absurd d
commands (OfHead s) (OfHead t) d = absurd d

-- a text that is missing is a statement
missing_one : (log : RunLog) (x : Text) → IsUnsaid log x → (s : Statement) × (x ≡ OfStatement s)
missing_one log (OfStatement s) m = (s, refl)
missing_one log (OfHead t) m = absurd m

lacks_or_not : (h : RunHeader) (texts : List SignedText) (l : HeldLog) → LacksSome h texts l ⊎ (LacksSome h texts l → ⊥)
lacks_or_not h texts l = elim (head_or_not h l.general l.log) [
  | inr ne ↦ inr (λ k. ne k.0)
  | inl head ↦ elim (decide_some (IsMissing l.log) (missing_or_not l.log) texts) [
    | inl f ↦ inl (head, f)
    | inr none ↦ inr (λ k. none k.1.0 k.1.1 k.1.2)
  ]
]

module _ (h : RunHeader) (exhibits : List LogBytes) (general : ℕ) (ok : IsHeader h) (all : AllBytes exhibits) where
  abbrev Holds : Claim → Type 0
  Holds claim = AreHeld h exhibits general claim × IsContradiction h general claim

  -- claim of a kind is found, or none is held
  abbrev Searched : ℕ → Type 0
  Searched k = ((claim : Claim) × IsFirstOfKind h exhibits general claim × (kind_of claim ≡ k)) ⊎ ((claim : Claim) → kind_of claim ≡ k → Holds claim → ⊥)

  no_texts : NoPair AreDifferent (texts_of h exhibits general) → (claim : Claim) → kind_of claim ≡ 1 → Holds claim → ⊥
  no_texts none (TwoTexts x y) k s = two_positions AreDifferent (texts_of h exhibits general) x y none s.0.0 s.0.1 s.1.different (turned x.text y.text s.1.different) (λ e. not_itself y.text (subst (λ z. AreDifferent z y) e s.1.different))
  no_texts none (TwoOrders v a w b) k s = absurd (omega (arith, k))
  no_texts none (MissingFromLog bytes t signature) k s = absurd (omega (arith, k))
  no_texts none (DepartingLog bytes p) k s = absurd (omega (arith, k))
  no_texts none (AcrossRuns x y) k s = absurd s.0

  search_texts : Searched 1
  search_texts = elim (pair_or_none AreDifferent differ_or_not (texts_of h exhibits general)) [
    | inl p ↦ inl (TwoTexts p.0 p.1, p.2, refl)
    | inr none ↦ inr (no_texts none)
  ]

  no_orders : NoPair AreOrders (texts_of h exhibits general) → (claim : Claim) → kind_of claim ≡ 2 → Holds claim → ⊥
  unfolding order_of
  no_orders none (TwoTexts x y) k s = absurd (omega (arith, k))
  no_orders none (TwoOrders v a w b) k s = two_positions AreOrders (texts_of h exhibits general) (command v a) (command w b) none s.0.0 s.0.1 (refl, refl, s.1.different) (refl, refl, λ e. s.1.different (sym e)) (λ e. s.1.different (ap (λ (t : SignedText). order_of t.text) e))
  no_orders none (MissingFromLog bytes t signature) k s = absurd (omega (arith, k))
  no_orders none (DepartingLog bytes p) k s = absurd (omega (arith, k))
  no_orders none (AcrossRuns x y) k s = absurd s.0

  not_commander : general ≢ 0 → (claim : Claim) → kind_of claim ≡ 2 → Holds claim → ⊥
  not_commander ne (TwoTexts x y) k s = absurd (omega (arith, k))
  not_commander ne (TwoOrders v a w b) k s = ne s.1.commander
  not_commander ne (MissingFromLog bytes t signature) k s = absurd (omega (arith, k))
  not_commander ne (DepartingLog bytes p) k s = absurd (omega (arith, k))
  not_commander ne (AcrossRuns x y) k s = absurd s.0

  -- each text in the list is signed by the general
  by_him : (t : SignedText) → Contains (texts_of h exhibits general) t → t.signer ≡ general
  unfolding texts_of
  by_him t c = eqb-true t.signer general (Contains_filtered (is_by general) (texts_in h exhibits) t c).1

  two_orders : general ≡ 0 → (x y : SignedText) → IsFirstPair AreOrders (texts_of h exhibits general) x y → (claim : Claim) × IsFirstOfKind h exhibits general claim × (kind_of claim ≡ 2)
  two_orders e x y p =
      let c = pair_in AreOrders (texts_of h exhibits general) x y p in
      let o = commands x.text y.text p.holds in
      let ex : x ≡ command o.0 x.signature = same_text x (command o.0 x.signature) (by_him x c.0 ∙ e) o.2.0 refl in
      let ey : y ≡ command o.1 y.signature = same_text y (command o.1 y.signature) (by_him y c.1 ∙ e) o.2.1 refl in
      let p1 = subst (λ (z : SignedText). IsFirstPair AreOrders (texts_of h exhibits general) z y) ex p in
      let p2 = subst (λ (z : SignedText). IsFirstPair AreOrders (texts_of h exhibits general) (command o.0 x.signature) z) ey p1 in
      (TwoOrders o.0 x.signature o.1 y.signature, (e, p2), refl)

  search_orders : Searched 2
  search_orders = elim (cases_eq general 0) [
    | inr ne ↦ inr (not_commander ne)
    | inl e ↦ elim (pair_or_none AreOrders orders_or_not (texts_of h exhibits general)) [
      | inl p ↦ inl (two_orders e p.0 p.1 p.2)
      | inr none ↦ inr (no_orders none)
    ]
  ]

  -- a log that the exhibits hold, and what its bytes read to
  same_log : (bytes : List ℕ) (log : RunLog) (k : HoldLog h exhibits general bytes) → IsSealedLogOf h general bytes log → (k.0.general ≡ general) × (log ≡ k.0.log)
  unfolding logs_of
  same_log bytes log k is =
      let f = Contains_filtered (is_his general) (logs_in h exhibits) k.0 k.1 in
      let r = logs_read h exhibits k.0 ok all f.0 in
      let spelled : log_spelling log ≡ log_spelling k.0.log = sym is.reads.spelled ∙ k.2 ∙ r.reads.spelled in
      let one = one_spelling_by (log_at h) log_spelling (IsLog h) (log_reads h ok.network.ranges.few_orders) log k.0.log [] [] is.reads.fits r.reads.fits (ap (λ (t : List ℕ). t ++ []) spelled) in
      (eqb-true k.0.general general f.1, one.0)

  sealed_head : (l : HeldLog) (log : RunLog) → l.general ≡ general → log ≡ l.log → HeadVerifies h general log → HeadVerifies h l.general l.log
  sealed_head l log e0 e1 v = subst (λ x. HeadVerifies h l.general x) e1 (subst (λ g. HeadVerifies h g log) (sym e0) v)

  none_lacks : ((l : HeldLog) → Contains (logs_of h exhibits general) l → LacksSome h (texts_of h exhibits general) l → ⊥) → (claim : Claim) → kind_of claim ≡ 3 → Holds claim → ⊥
  none_lacks none (TwoTexts x y) k s = absurd (omega (arith, k))
  none_lacks none (TwoOrders v a w b) k s = absurd (omega (arith, k))
  none_lacks none (MissingFromLog bytes t signature) k s =
      let held : HoldLog h exhibits general bytes = s.0.0 in
      let e = same_log bytes s.1.log held s.1.his in
      none held.0 held.1 (sealed_head held.0 s.1.log e.0 e.1 s.1.his.sealed, (stated t.order t.path general signature, s.0.1, subst (λ (log : RunLog). HasSign log t → ⊥) e.1 s.1.missing))
  none_lacks none (DepartingLog bytes p) k s = absurd (omega (arith, k))
  none_lacks none (AcrossRuns x y) k s = absurd s.0

  missing : (l : HeldLog) → IsFirst (LacksSome h (texts_of h exhibits general)) (logs_of h exhibits general) l → (text : SignedText) → IsFirst (IsMissing l.log) (texts_of h exhibits general) text → (claim : Claim) × IsFirstOfKind h exhibits general claim × (kind_of claim ≡ 3)
  missing l f x m =
      let o = missing_one l.log x.text m.holds in
      let c = first_in (IsMissing l.log) (texts_of h exhibits general) x m in
      let e : x ≡ stated o.0.order o.0.path general x.signature = same_text x (stated o.0.order o.0.path general x.signature) (by_him x c) (o.1 ∙ ap OfStatement (statement_same o.0 (record { order = o.0.order; path = o.0.path }) refl refl)) refl in
      (MissingFromLog l.bytes o.0 x.signature, (l, refl, f, subst (IsFirst (IsMissing l.log) (texts_of h exhibits general)) e m), refl)

  search_logs : Searched 3
  search_logs = elim (first_or_none (LacksSome h (texts_of h exhibits general)) (logs_of h exhibits general) (λ l c. lacks_or_not h (texts_of h exhibits general) l)) [
    | inr none ↦ inr (none_lacks none)
    | inl f ↦ elim (first_or_none (IsMissing f.0.log) (texts_of h exhibits general) (λ x c. missing_or_not f.0.log x)) [
      | inl m ↦ inl (missing f.0 f.1 m.0 m.1)
      | inr none ↦ absurd (none f.1.holds.1.0 f.1.holds.1.1 f.1.holds.1.2)
    ]
  ]

  none_departs : ((l : HeldLog) → Contains (logs_of h exhibits general) l → DepartsSomewhere h l → ⊥) → (claim : Claim) → kind_of claim ≡ 4 → Holds claim → ⊥
  none_departs none (TwoTexts x y) k s = absurd (omega (arith, k))
  none_departs none (TwoOrders v a w b) k s = absurd (omega (arith, k))
  none_departs none (MissingFromLog bytes t signature) k s = absurd (omega (arith, k))
  none_departs none (DepartingLog bytes p) k s =
      let held : HoldLog h exhibits general bytes = s.0 in
      let e = same_log bytes s.1.log held s.1.his in
      let d = subst (λ (log : RunLog). DepartsAt h.network general (erased log.entries) p) e.1 s.1.departs in
      none held.0 held.1 (p, (sealed_head held.0 s.1.log e.0 e.1 s.1.his.sealed, subst (λ g. DepartsAt h.network g (erased held.0.log.entries) p) (sym e.0) d))
  none_departs none (AcrossRuns x y) k s = absurd s.0

  -- of each of his logs it is told whether it departs
  abbrev Told : Type 0
  Told = (l : HeldLog) → Contains (logs_of h exhibits general) l → DepartsSomewhere h l ⊎ (DepartsSomewhere h l → ⊥)

  search_departing : Told → Searched 4
  search_departing told = elim (first_or_none (DepartsSomewhere h) (logs_of h exhibits general) told) [
    | inr none ↦ inr (none_departs none)
    | inl f ↦ inl (DepartingLog f.0.bytes f.1.holds.0, (f.0, refl, f.1, f.1.holds.1), refl)
  ]

  -- what is first of its kind is held
  held : (claim : Claim) → IsFirstOfKind h exhibits general claim → AreHeld h exhibits general claim
  held (TwoTexts x y) f = pair_in AreDifferent (texts_of h exhibits general) x y f
  held (TwoOrders v a w b) f = pair_in AreOrders (texts_of h exhibits general) (command v a) (command w b) f.1
  held (MissingFromLog bytes t a) f = ((f.0, first_in (LacksSome h (texts_of h exhibits general)) (logs_of h exhibits general) f.0 f.2, f.1), first_in (IsMissing f.0.log) (texts_of h exhibits general) (stated t.order t.path general a) f.3)
  held (DepartingLog bytes p) f = (f.0, first_in (DepartsSomewhere h) (logs_of h exhibits general) f.0 f.2, f.1)
  held (AcrossRuns x y) f = f

  holds_of : (claim : Claim) → IsFirstOfKind h exhibits general claim → Holds claim
  holds_of claim f = (held claim f, kind_holds h exhibits general claim ok all f)

  abbrev None : ℕ → Type 0
  None k = (claim : Claim) → kind_of claim ≡ k → Holds claim → ⊥

  kinds : (claim : Claim) → (1 ≤ kind_of claim) × (kind_of claim ≤ 5)
  kinds (TwoTexts x y) = (omega arith, omega arith)
  kinds (TwoOrders v a w b) = (omega arith, omega arith)
  kinds (MissingFromLog bytes t a) = (omega arith, omega arith)
  kinds (DepartingLog bytes p) = (omega arith, omega arith)
  kinds (AcrossRuns x y) = (omega arith, omega arith)

  not_of : (k : ℕ) → None k → (other : Claim) → IsFirstOfKind h exhibits general other → kind_of other ≢ k
  not_of k none other f = λ e. none other e (holds_of other f)

  behind : (n k : ℕ) → k ≤ n → n ≢ k → k + 1 ≤ n
  behind n k le ne = elim (cases_eq n k) [ inl e ↦ absurd (ne e) | inr other ↦ omega (arith, le, other) ]

  abbrev Given : Type 0
  Given = (claim : Claim) × IsFirstClaim h exhibits general claim

  give : Told → (claim : Claim) → Holds claim → Given
  give told claim s = elim search_texts [
    | inl f ↦ (f.0, record { first = f.1; least = λ other o. omega (arith, f.2, (kinds other).0) })
    | inr n1 ↦ elim search_orders [
      | inl f ↦ (f.0, record { first = f.1; least = λ other o. let b = behind (kind_of other) 1 (kinds other).0 (not_of 1 n1 other o) in omega (arith, f.2, b) })
      | inr n2 ↦ elim search_logs [
        | inl f ↦ (
          f.0,
          record {
            first = f.1;
            least = λ other o.
                let b = behind (kind_of other) 1 (kinds other).0 (not_of 1 n1 other o) in
                let c = behind (kind_of other) 2 b (not_of 2 n2 other o) in
                omega (arith, f.2, c);
          },
        )
        | inr n3 ↦ elim (search_departing told) [
          | inl f ↦ (
            f.0,
            record {
              first = f.1;
              least = λ other o.
                  let b = behind (kind_of other) 1 (kinds other).0 (not_of 1 n1 other o) in
                  let c = behind (kind_of other) 2 b (not_of 2 n2 other o) in
                  let d = behind (kind_of other) 3 c (not_of 3 n3 other o) in
                  omega (arith, f.2, d);
            },
          )
          | inr n4 ↦ absurd (nothing n1 n2 n3 n4 claim s)
        ]
      ]
    ]
  ]
    where
      nothing : None 1 → None 2 → None 3 → None 4 → (e : Claim) → Holds e → ⊥
      nothing n1 n2 n3 n4 (TwoTexts x y) s = n1 (TwoTexts x y) refl s
      nothing n1 n2 n3 n4 (TwoOrders v a w b) s = n2 (TwoOrders v a w b) refl s
      nothing n1 n2 n3 n4 (MissingFromLog bytes t a) s = n3 (MissingFromLog bytes t a) refl s
      nothing n1 n2 n3 n4 (DepartingLog bytes p) s = n4 (DepartingLog bytes p) refl s
      nothing n1 n2 n3 n4 (AcrossRuns x y) s = s.0

pub given_where_held : GivenWhereHeld
given_where_held h exhibits general ok all told = (
  (λ s. give h exhibits general ok all told s.0 (s.1, s.2)),
  (λ f. let k = holds_of h exhibits general ok all f.0 f.1.first in (f.0, k.0, k.1)),
)
