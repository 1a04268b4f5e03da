-- The claims that are found by two texts.
use Rattle.std.proofs.Common.{◌≡◌, ℕ, Bool, true, false, not, ◌&&◌, cond, eqb, Option, Some, None, List, [], ◌∷◌, ◌++◌, Contains, refl, sym, ap, subst, ◌∙◌, inl, inr, arith}
use Rattle.std.specs.Bool.{nat_eq}
use Rattle.std.specs.List.{find, list_any}
use Rattle.std.specs.Option.{option_map}
use Rattle.std.specs.Cmp.Lexicographic.{pointwise, same_text}
use Rattle.std.proofs.lemmas.Bool.{eqb-true, eq-eqb}
use Rattle.std.proofs.lemmas.List.{append-nil}
use Rattle.std.proofs.lemmas.List.Elements.{Contains-push_cases}
use Rattle.gen_types.proofs.Lists.{bool_cases, Contains-middle, Contains_here, Contains_there, Contains_nil}
use Rattle.gen_chain.specs.declared.statements.Statement.{Statement}
use Rattle.gen_chain.proofs.TestedChains.{both, and_so, same_list}
use Rattle.gen_local.specs.declared.texts.SignedText.{SignedText}
use Rattle.gen_local.specs.declared.texts.Text.{Text}
use Rattle.gen_local.specs.declared.texts.Text.TheVariants.{OfStatement, OfHead}
use Rattle.gen_log.specs.Log.{RunLog}
use Rattle.gen_log.specs.Signing.{is_sign_of}
use Rattle.gen_convict.specs.Accused.{AreUnlike, AreDifferent, command}
use Rattle.gen_convict.specs.Contradictions.{Claim, TwoTexts, TwoOrders}
use Rattle.gen_convict.specs.Finding.{is_like, is_unlike, has_unlike, is_command, are_orders, new_one, one_each, is_unsaid}
use Rattle.gen_convict.specs.FindingClaims.{with_unlike, texts_claim, order_of, two_orders, with_order, first_order, orders_claim}
use Rattle.gen_convict.specs.First.{DifferInOrder, AreOrders, IsUnsaid, IsMissing}
use Rattle.gen_convict.specs.Firsts.{IsFirst, IsFirstPair}
use Rattle.gen_convict.specs.PairLaws.{NoTwoTexts, subject_of, IsByCommander, IsCommand}
use Rattle.gen_convict.proofs.FirstOnes.{unlike_or_same, commands_part, turned, not_itself, one_of_each}
use Rattle.gen_convict.proofs.FindFirst.{Tests, find_first, find_none, find_in, pair_found}
use Rattle.gen_convict.proofs.Signs.{any_found, any_told, one_test, sign_found, sign_told}

-- ---- what the tests tell

opposite : (b : Bool) → not b ≡ true → b ≡ true → ⊥
opposite true e t = absurd cc
opposite false e t = absurd cc

so_not : (b : Bool) → (b ≡ true → ⊥) → not b ≡ true
so_not true none = absurd (none refl)
so_not false none = refl

same_parts : (s t : Statement) → s ≡ t → pointwise nat_eq s.path t.path ≡ true
same_parts s t e = subst (λ (u : Statement). pointwise nat_eq s.path u.path ≡ true) e (same_list s.path)

pub unlike_gives : (x y : Text) → is_unlike x y ≡ true → AreUnlike x y
unlike_gives (OfStatement s) (OfStatement t) e =
    let p = both (eqb s.order t.order) (not (pointwise nat_eq s.path t.path)) e in
    (eqb-true s.order t.order p.0, λ same. opposite (pointwise nat_eq s.path t.path) p.1 (same_parts s t same))
unlike_gives (OfStatement s) (OfHead t) e = absurd cc
unlike_gives (OfHead s) (OfStatement t) e = absurd cc
unlike_gives (OfHead s) (OfHead t) e = λ same.
    opposite (eqb s.general t.general && (eqb s.entries t.entries && pointwise nat_eq s.last_link t.last_link)) e
    (subst (λ u. (eqb s.general u.general && (eqb s.entries u.entries && pointwise nat_eq s.last_link u.last_link)) ≡ true) same
    (and_so (eqb s.general s.general) (eqb s.entries s.entries && pointwise nat_eq s.last_link s.last_link) (eq-eqb s.general s.general refl)
    (and_so (eqb s.entries s.entries) (pointwise nat_eq s.last_link s.last_link) (eq-eqb s.entries s.entries refl) (same_list s.last_link))))

pub unlike_told : (x y : Text) → AreUnlike x y → is_unlike x y ≡ true
unlike_told (OfStatement s) (OfStatement t) d =
    and_so (eqb s.order t.order) (not (pointwise nat_eq s.path t.path)) (eq-eqb s.order t.order d.0)
    (so_not (pointwise nat_eq s.path t.path) (λ e. d.1 (λ i. record { order = d.0 i; path = same_text s.path t.path (sym e) i })))
unlike_told (OfStatement s) (OfHead t) d = absurd d
unlike_told (OfHead s) (OfStatement t) d = absurd d
unlike_told (OfHead s) (OfHead t) d =
    so_not (eqb s.general t.general && (eqb s.entries t.entries && pointwise nat_eq s.last_link t.last_link)) (λ e.
    let p = both (eqb s.general t.general) (eqb s.entries t.entries && pointwise nat_eq s.last_link t.last_link) e in
    let q = both (eqb s.entries t.entries) (pointwise nat_eq s.last_link t.last_link) p.1 in
    d (λ i. record { general = eqb-true s.general t.general p.0 i; entries = eqb-true s.entries t.entries q.0 i; last_link = same_text s.last_link t.last_link (sym q.1) i }))

pub unlike_tests : (x : SignedText) → Tests (AreDifferent x) (λ y. is_unlike x.text y.text)
unlike_tests x = record { gives = λ y e. unlike_gives x.text y.text e; told = λ y d. unlike_told x.text y.text d }

command_gives : (x : Text) → is_command x ≡ true → IsByCommander x
command_gives (OfStatement s) e = same_text s.path (0 ∷ []) (sym e)
command_gives (OfHead s) e = absurd cc

command_told : (x : Text) → IsByCommander x → is_command x ≡ true
command_told (OfStatement s) e = subst (λ (p : List ℕ). pointwise nat_eq p (0 ∷ []) ≡ true) (sym e) (same_list (0 ∷ []))
command_told (OfHead s) e = absurd e

command_tests : Tests IsCommand (λ t. is_command t.text)
command_tests = record { gives = λ t e. command_gives t.text e; told = λ t e. command_told t.text e }

orders_give : (x y : Text) → are_orders x y ≡ true → DifferInOrder x y
orders_give (OfStatement s) (OfStatement t) e =
    let p = both (pointwise nat_eq s.path (0 ∷ [])) (pointwise nat_eq t.path (0 ∷ []) && not (eqb s.order t.order)) e in
    let q = both (pointwise nat_eq t.path (0 ∷ [])) (not (eqb s.order t.order)) p.1 in
    (same_text s.path (0 ∷ []) (sym p.0), same_text t.path (0 ∷ []) (sym q.0), λ same. opposite (eqb s.order t.order) q.1 (eq-eqb s.order t.order same))
orders_give (OfStatement s) (OfHead t) e = absurd cc
orders_give (OfHead s) (OfStatement t) e = absurd cc
orders_give (OfHead s) (OfHead t) e = absurd cc

orders_told : (x y : Text) → DifferInOrder x y → are_orders x y ≡ true
orders_told (OfStatement s) (OfStatement t) d =
    and_so (pointwise nat_eq s.path (0 ∷ [])) (pointwise nat_eq t.path (0 ∷ []) && not (eqb s.order t.order))
    (subst (λ (p : List ℕ). pointwise nat_eq p (0 ∷ []) ≡ true) (sym d.0) (same_list (0 ∷ [])))
    (and_so (pointwise nat_eq t.path (0 ∷ [])) (not (eqb s.order t.order))
    (subst (λ (p : List ℕ). pointwise nat_eq p (0 ∷ []) ≡ true) (sym d.1) (same_list (0 ∷ [])))
    (so_not (eqb s.order t.order) (λ e. d.2 (eqb-true s.order t.order e))))
orders_told (OfStatement s) (OfHead t) d = absurd d
orders_told (OfHead s) (OfStatement t) d = absurd d
orders_told (OfHead s) (OfHead t) d = absurd d

orders_tests : (x : SignedText) → Tests (AreOrders x) (λ y. are_orders x.text y.text)
orders_tests x = record { gives = λ y e. orders_give x.text y.text e; told = λ y d. orders_told x.text y.text d }

unsaid_gives : (log : RunLog) (x : Text) → is_unsaid log x ≡ true → IsUnsaid log x
unsaid_gives log (OfStatement s) e = λ has. opposite (list_any (is_sign_of s) log.entries) e (sign_told log s has)
unsaid_gives log (OfHead s) e = absurd cc

unsaid_told : (log : RunLog) (x : Text) → IsUnsaid log x → is_unsaid log x ≡ true
unsaid_told log (OfStatement s) none = so_not (list_any (is_sign_of s) log.entries) (λ e. none (sign_found log s e))
unsaid_told log (OfHead s) none = absurd none

pub unsaid_tests : (log : RunLog) → Tests (IsMissing log) (λ t. is_unsaid log t.text)
unsaid_tests log = record { gives = λ t e. unsaid_gives log t.text e; told = λ t m. unsaid_told log t.text m }

like_gives : (x y : Text) → is_like x y ≡ true → subject_of x ≡ subject_of y
like_gives (OfStatement s) (OfStatement t) e = let same : s.order ≡ t.order = eqb-true s.order t.order e in omega (arith, same)
like_gives (OfStatement s) (OfHead t) e = absurd cc
like_gives (OfHead s) (OfStatement t) e = absurd cc
like_gives (OfHead s) (OfHead t) e = refl

-- ---- one text of each subject is enough

-- a test says of all texts of one subject the same
abbrev pub SameOfSubject : List SignedText → (SignedText → Bool) → Type 0
SameOfSubject all test =
    (x y : SignedText) → Contains all x → Contains all y → subject_of x.text ≡ subject_of y.text → test x ≡ test y

find_each : (all : List SignedText) (test : SignedText → Bool) → SameOfSubject all test → (before xs : List SignedText) → ((z : SignedText) → Contains before z → Contains all z × (test z ≡ false)) → ((z : SignedText) → Contains xs z → Contains all z) → find test (one_each before xs) ≡ find test xs
find_each all test same before [] b a = refl
find_each all test same before (t ∷ ts) b a = elim (bool_cases (list_any (λ x. is_like x.text t.text) before)) [
  | inl old ↦
      let r = any_found (λ x. is_like x.text t.text) before old in
      let no : test t ≡ false = sym (same r.0 t (b r.0 r.1).0 (a t (Contains_here t ts)) (like_gives r.0.text t.text r.2)) ∙ (b r.0 r.1).1 in
      let empty : new_one before t ≡ [] = ap (λ (c : Bool). cond c [] (t ∷ [])) old in
      let step : one_each before (t ∷ ts) ≡ one_each before ts = ap (λ n. n ++ one_each (before ++ n) ts) empty ∙ ap (λ bs. one_each bs ts) (append-nil before) in
      ap (find test) step ∙ find_each all test same before ts b (λ z h. a z (Contains_there t z ts h)) ∙ sym (ap (λ (c : Bool). cond c (Some t) (find test ts)) no)
  | inr new ↦
      let alone : new_one before t ≡ t ∷ [] = ap (λ (c : Bool). cond c [] (t ∷ [])) new in
      let step : one_each before (t ∷ ts) ≡ t ∷ one_each (before ++ t ∷ []) ts = ap (λ n. n ++ one_each (before ++ n) ts) alone in
      ap (find test) step ∙ elim (bool_cases (test t)) [
        | inl is_it ↦ ap (λ (c : Bool). cond c (Some t) (find test (one_each (before ++ t ∷ []) ts))) is_it ∙ sym (ap (λ (c : Bool). cond c (Some t) (find test ts)) is_it)
        | inr not_it ↦ ap (λ r. cond (test t) (Some t) r) (find_each all test same (before ++ t ∷ []) ts (λ z h. elim (Contains-push_cases before t z h) [ inl k ↦ b z k | inr e ↦ subst (λ w. Contains all w × (test w ≡ false)) e (a t (Contains_here t ts), not_it) ]) (λ z h. a z (Contains_there t z ts h)))
      ]
]

pub find_of_each : (texts : List SignedText) (test : SignedText → Bool) → SameOfSubject texts test → find test (one_each [] texts) ≡ find test texts
find_of_each texts test same = find_each texts test same [] texts (λ z h. absurd (Contains_nil z h)) (λ z h. h)

-- ---- two texts

abbrev HasDifferent : List SignedText → SignedText → Type 0
HasDifferent texts x = (y : SignedText) × Contains texts y × AreDifferent x y

different_tests : (texts : List SignedText) → Tests (HasDifferent texts) (has_unlike texts)
different_tests texts = record {
  gives = λ x e. let r = any_found (λ y. is_unlike x.text y.text) texts e in (r.0, r.1, unlike_gives x.text r.0.text r.2);
  told = λ x d. any_told (λ y. is_unlike x.text y.text) texts d.0 d.1 (unlike_told x.text d.0.text d.2);
}

moved : (texts : List SignedText) (x y : SignedText) → Contains texts x → subject_of y.text ≡ subject_of x.text → HasDifferent texts x → HasDifferent texts y
moved texts x y inside e d = elim (unlike_or_same y.text x.text e) [
  | inl ne ↦ (x, inside, ne)
  | inr same ↦ (d.0, d.1, subst (λ (t : Text). AreUnlike t d.0.text) (sym same) d.2)
]

different_of_subject : (texts : List SignedText) → SameOfSubject texts (has_unlike texts)
different_of_subject texts x y c d e =
    let t = different_tests texts in
    one_test (HasDifferent texts y) (has_unlike texts x) (has_unlike texts y)
    (λ p. moved texts x y c (sym e) (t.gives x p)) (λ h. t.told x (moved texts y x d e h)) (t.gives y) (t.told y)

-- the claim is by the first pair of different texts
abbrev pub IsTextsClaim : List SignedText → Claim → Type 0
IsTextsClaim texts claim =
    (x : SignedText) × (y : SignedText) × (claim ≡ TwoTexts x y) × IsFirstPair AreDifferent texts x y

second_found : (texts : List SignedText) (x : SignedText) → IsFirst (HasDifferent texts) texts x → (s : Option SignedText) → find (λ y. is_unlike x.text y.text) texts ≡ s → (claim : Claim) → option_map (TwoTexts x) s ≡ Some claim → IsTextsClaim texts claim
second_found texts x f None found claim e = absurd cc
second_found texts x f (Some y) found claim e =
    let same : TwoTexts x y ≡ claim = cc in
    (x, y, sym same, pair_found AreDifferent (HasDifferent texts) (λ z. is_unlike x.text z.text) texts x y f (λ z w c d r. (w, d, r)) (not_itself x.text) (λ z d. turned x.text z.text d) (unlike_tests x) found)

first_found : (texts : List SignedText) (r : Option SignedText) → find (has_unlike texts) texts ≡ r → (claim : Claim) → with_unlike texts r ≡ Some claim → IsTextsClaim texts claim
first_found texts None found claim e = absurd cc
first_found texts (Some x) found claim e =
    second_found texts x (find_first (HasDifferent texts) (has_unlike texts) (different_tests texts) texts x found) (find (λ y. is_unlike x.text y.text) texts) refl claim e

pub texts_found : (texts : List SignedText) (claim : Claim) → texts_claim (one_each [] texts) texts ≡ Some claim → IsTextsClaim texts claim
texts_found texts claim e =
    first_found texts (find (has_unlike texts) texts) refl claim (ap (with_unlike texts) (sym (find_of_each texts (has_unlike texts) (different_of_subject texts))) ∙ e)

none_second : (texts : List SignedText) (x : SignedText) → HasDifferent texts x → (s : Option SignedText) → find (λ y. is_unlike x.text y.text) texts ≡ s → option_map (TwoTexts x) s ≡ None → ⊥
none_second texts x d None found e = find_none (AreDifferent x) (λ y. is_unlike x.text y.text) (unlike_tests x) texts found d.0 d.1 d.2
none_second texts x d (Some y) found e = absurd cc

behind : (front back : List SignedText) (u v : SignedText) → Contains back v → Contains (front ++ u ∷ back) v
behind [] back u v h = Contains_there u v back h
behind (z ∷ zs) back u v h = Contains_there z v (zs ++ u ∷ back) (behind zs back u v h)

none_first : (texts : List SignedText) (r : Option SignedText) → find (has_unlike texts) texts ≡ r → with_unlike texts r ≡ None → NoTwoTexts texts
none_first texts None found e = λ front back u v s h d.
    let inside : Contains texts u = subst (λ xs. Contains xs u) (sym s) (Contains-middle front u back) in
    find_none (HasDifferent texts) (has_unlike texts) (different_tests texts) texts found u inside (v, subst (λ xs. Contains xs v) (sym s) (behind front back u v h), d)
none_first texts (Some x) found e =
    absurd (none_second texts x ((find_first (HasDifferent texts) (has_unlike texts) (different_tests texts) texts x found).holds) (find (λ y. is_unlike x.text y.text) texts) refl e)

pub texts_none : (texts : List SignedText) → texts_claim (one_each [] texts) texts ≡ None → NoTwoTexts texts
texts_none texts e =
    none_first texts (find (has_unlike texts) texts) refl (ap (with_unlike texts) (sym (find_of_each texts (has_unlike texts) (different_of_subject texts))) ∙ e)

-- where no two texts differ, a statement is missing if the first of its subject is
pub unsaid_of_each : (texts : List SignedText) (log : RunLog) → NoTwoTexts texts → find (λ t. is_unsaid log t.text) (one_each [] texts) ≡ find (λ t. is_unsaid log t.text) texts
unsaid_of_each texts log none = find_of_each texts (λ t. is_unsaid log t.text) (λ x y c d e. ap (is_unsaid log) (one_of_each texts none x y c d (sym e)))

-- ---- two orders

-- the signer of each text is the general
abbrev pub AreBy : ℕ → List SignedText → Type 0
AreBy general texts = (t : SignedText) → Contains texts t → t.signer ≡ general

stated_alone : (signer : ℕ) (text : Text) (signature : List ℕ) → signer ≡ 0 → IsByCommander text → (record { signer = signer; text = text; signature = signature }) ≡ command (order_of text) signature
stated_alone signer (OfStatement s) signature e is = λ i. record { signer = e i; text = OfStatement (record { order = s.order; path = is i }); signature = signature }
stated_alone signer (OfHead s) signature e is = absurd is

-- the claim is by the first pair of the commander's orders
abbrev pub IsOrdersClaim : ℕ → List SignedText → Claim → Type 0
IsOrdersClaim general texts claim =
    (v : ℕ) × (a : List ℕ) × (w : ℕ) × (b : List ℕ) × (claim ≡ TwoOrders v a w b) × (general ≡ 0)
    × IsFirstPair AreOrders texts (command v a) (command w b)

by_commander : (x y : Text) → DifferInOrder x y → IsByCommander x × IsByCommander y
by_commander (OfStatement s) (OfStatement t) d = (d.0, d.1)
by_commander (OfStatement s) (OfHead t) d = absurd d
by_commander (OfHead s) (OfStatement t) d = absurd d
by_commander (OfHead s) (OfHead t) d = absurd d

turned_orders : (x y : Text) → DifferInOrder x y → DifferInOrder y x
turned_orders (OfStatement s) (OfStatement t) d = (d.1, d.0, λ e. d.2 (sym e))
turned_orders (OfStatement s) (OfHead t) d = d
turned_orders (OfHead s) (OfStatement t) d = d
turned_orders (OfHead s) (OfHead t) d = d

not_other : (x : Text) → DifferInOrder x x → ⊥
not_other (OfStatement s) d = d.2 refl
not_other (OfHead s) d = d

module _ (general : ℕ) (texts : List SignedText) (by : AreBy general texts) (zero_is : general ≡ 0) where
  alone : (t : SignedText) → Contains texts t → IsByCommander t.text → t ≡ command (order_of t.text) t.signature
  alone t c is = stated_alone t.signer t.text t.signature (by t c ∙ zero_is) is

  second_order : (x : SignedText) → IsFirst IsCommand texts x → (s : Option SignedText) → find (λ y. are_orders x.text y.text) texts ≡ s → (claim : Claim) → option_map (two_orders x) s ≡ Some claim → IsOrdersClaim general texts claim
  second_order x f None found claim e = absurd cc
  second_order x f (Some y) found claim e =
      let same : two_orders x y ≡ claim = cc in
      let p = pair_found AreOrders IsCommand (λ z. are_orders x.text z.text) texts x y f (λ z w c d r. (by_commander z.text w.text r).0) (not_other x.text) (λ z d. turned_orders x.text z.text d) (orders_tests x) found in
      let inside = find_in (λ z. are_orders x.text z.text) texts y found in
      let x_in : Contains texts x = subst (λ ys. Contains ys x) (sym f.split) (Contains-middle f.before x f.after) in
      let x_is = alone x x_in f.holds in
      let y_is = alone y inside.0 (by_commander x.text y.text (orders_give x.text y.text inside.1)).1 in
      (order_of x.text, x.signature, order_of y.text, y.signature, sym same, zero_is, subst (λ z. IsFirstPair AreOrders texts z (command (order_of y.text) y.signature)) x_is (subst (IsFirstPair AreOrders texts x) y_is p))

  first_command : (r : Option SignedText) → first_order texts ≡ r → (claim : Claim) → with_order texts r ≡ Some claim → IsOrdersClaim general texts claim
  first_command None found claim e = absurd cc
  first_command (Some x) found claim e =
      second_order x (find_first IsCommand (λ t. is_command t.text) command_tests texts x found) (find (λ y. are_orders x.text y.text) texts) refl claim e

pub orders_found : (general : ℕ) (texts : List SignedText) (claim : Claim) → AreBy general texts → orders_claim general texts ≡ Some claim → IsOrdersClaim general texts claim
orders_found general texts claim by e = elim (bool_cases (eqb general 0)) [
  | inl is_it ↦
      let e1 : with_order texts (first_order texts) ≡ Some claim = sym (ap (λ (c : Bool). cond c (with_order texts (first_order texts)) None) is_it) ∙ e in
      first_command general texts by (eqb-true general 0 is_it) (first_order texts) refl claim e1
  | inr not_it ↦ let e1 : None ≡ Some claim = sym (ap (λ (c : Bool). cond c (with_order texts (first_order texts)) None) not_it) ∙ e in absurd cc
]

-- no two texts are orders of the commander
abbrev pub NoOrders : List SignedText → Type 0
NoOrders texts = (u v : SignedText) → Contains texts u → Contains texts v → AreOrders u v → ⊥

no_second_order : (texts : List SignedText) (x : SignedText) → IsCommand x → (s : Option SignedText) → find (λ y. are_orders x.text y.text) texts ≡ s → option_map (two_orders x) s ≡ None → NoOrders texts
no_second_order texts x is None found e = λ u v c d r. elim (commands_part u.text v.text x.text r is) [
  | inl ne ↦ find_none (AreOrders x) (λ y. are_orders x.text y.text) (orders_tests x) texts found u c ne
  | inr ne ↦ find_none (AreOrders x) (λ y. are_orders x.text y.text) (orders_tests x) texts found v d ne
]
no_second_order texts x is (Some y) found e = absurd cc

no_first_order : (texts : List SignedText) (r : Option SignedText) → first_order texts ≡ r → with_order texts r ≡ None → NoOrders texts
no_first_order texts None found e = λ u v c d r. find_none IsCommand (λ t. is_command t.text) command_tests texts found u c (by_commander u.text v.text r).0
no_first_order texts (Some x) found e =
    no_second_order texts x (find_first IsCommand (λ t. is_command t.text) command_tests texts x found).holds (find (λ y. are_orders x.text y.text) texts) refl e

pub orders_none : (general : ℕ) (texts : List SignedText) → general ≡ 0 → orders_claim general texts ≡ None → NoOrders texts
orders_none general texts zero_is e =
    let yes : eqb general 0 ≡ true = eq-eqb general 0 zero_is in
    let e1 : with_order texts (first_order texts) ≡ None = sym (ap (λ (c : Bool). cond c (with_order texts (first_order texts)) None) yes) ∙ e in
    no_first_order texts (first_order texts) refl e1
