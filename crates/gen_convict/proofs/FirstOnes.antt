-- The first member and the first pair of a list.
use Rattle.std.proofs.Common.{◌≤◌, length, length-append, ◌≡◌, ◌≢◌, ◌⊎◌, inl, inr, List, [], ◌∷◌, ◌++◌, Contains, refl, sym, ap, subst, ◌∙◌, arith, append_assoc}
use Rattle.std.proofs.lemmas.Bool.{cases_eq}
use Rattle.std.proofs.lemmas.List.Elements.{Contains-append_right, Contains-append_cases}
use Rattle.gen_types.proofs.Lists.{split, not_nil, Contains-middle, Contains_here, Contains_there, Contains_cases, Contains_nil}
use Rattle.gen_chain.specs.declared.statements.Statement.{Statement}
use Rattle.gen_local.specs.declared.texts.SignedText.{SignedText}
use Rattle.gen_local.specs.declared.texts.Text.{Text}
use Rattle.gen_local.specs.declared.texts.Text.TheVariants.{OfStatement, OfHead}
use Rattle.gen_convict.specs.Accused.{AreUnlike, AreDifferent}
use Rattle.gen_convict.specs.First.{DifferInOrder, AreOrders}
use Rattle.gen_convict.specs.Firsts.{IsFirst, IsFirstPair}
use Rattle.gen_convict.specs.PairLaws.{subject_of, AreAlike, IsSubjectPair, EarliestSubject, FirstOfSubject, FirstCommand, OneOfEach, IsByCommander, IsCommand, HasTwoTexts, OneFirstPair}
use Rattle.gen_convict.proofs.Linked.{same_or_not}
use Rattle.gen_convict.proofs.Refuted.{statement_same, head_or_not}

-- what stands behind the head and in the tail of equal lists
tail_same : {X : Type 0} (x y : X) (xs ys : List X) → x ∷ xs ≡ y ∷ ys → (x ≡ y) × (xs ≡ ys)
tail_same x y xs ys e = (cc, cc)

pub first_or_none : {X : Type 0} (P : X → Type 0) (xs : List X) → ((x : X) → Contains xs x → P x ⊎ (P x → ⊥)) → ((x : X) × IsFirst P xs x) ⊎ ((x : X) → Contains xs x → P x → ⊥)
first_or_none P [] dec = inr (λ x h p. Contains_nil x h)
first_or_none P (x ∷ xs) dec = elim (dec x (Contains_here x xs)) [
  | inl p ↦ inl (x, record { before = []; after = xs; split = refl; holds = p; none_before = λ z h q. Contains_nil z h })
  | inr no_p ↦ elim (first_or_none P xs (λ y h. dec y (Contains_there x y xs h))) [
    | inr none ↦ inr (λ y h p. elim (Contains_cases x y xs h) [ inl e ↦ no_p (subst P (sym e) p) | inr k ↦ none y k p ])
    | inl f ↦ inl (
      f.0,
      record {
        before = x ∷ f.1.before;
        after = f.1.after;
        split = ap (λ zs. x ∷ zs) f.1.split;
        holds = f.1.holds;
        none_before = λ z h q. elim (Contains_cases x z f.1.before h) [ inl e ↦ no_p (subst P (sym e) q) | inr k ↦ f.1.none_before z k q ];
      },
    )
  ]
]

-- no pair of the list is so related
abbrev pub NoPair : {X : Type 0} → (X → X → Type 0) → List X → Type 0
NoPair {X} R xs = (front back : List X) (u v : X) → xs ≡ front ++ u ∷ back → Contains back v → R u v → ⊥

pub no_pair_more : {X : Type 0} (R : X → X → Type 0) (z : X) (zs : List X) → ((v : X) → Contains zs v → R z v → ⊥) → NoPair R zs → NoPair R (z ∷ zs)
no_pair_more R z zs none later [] back u v e h r =
    let s = tail_same z u zs back e in
    none v (subst (λ ys. Contains ys v) (sym s.1) h) (subst (λ y. R y v) (sym s.0) r)
no_pair_more R z zs none later (f ∷ front) back u v e h r = later front back u v (tail_same z f zs (front ++ u ∷ back) e).1 h r

-- where the pair begins behind z no pair begins before it
pub none_before_more : {X : Type 0} (R : X → X → Type 0) (z : X) (before rest : List X) → ((v : X) → Contains (before ++ rest) v → R z v → ⊥) → ((front back : List X) (u v : X) → before ≡ front ++ u ∷ back → Contains (back ++ rest) v → R u v → ⊥) → (front back : List X) (u v : X) → z ∷ before ≡ front ++ u ∷ back → Contains (back ++ rest) v → R u v → ⊥
none_before_more R z before rest none later [] back u v e h r =
    let s = tail_same z u before back e in
    none v (subst (λ ys. Contains (ys ++ rest) v) (sym s.1) h) (subst (λ y. R y v) (sym s.0) r)
none_before_more R z before rest none later (f ∷ front) back u v e h r = later front back u v (tail_same z f before (front ++ u ∷ back) e).1 h r

pub pair_or_none : {X : Type 0} (R : X → X → Type 0) → ((x y : X) → R x y ⊎ (R x y → ⊥)) → (xs : List X) → ((x : X) × (y : X) × IsFirstPair R xs x y) ⊎ NoPair R xs
pair_or_none R dec [] = inr (λ front back u v e h r. not_nil front u back (sym e))
pair_or_none R dec (z ∷ zs) = elim (first_or_none (R z) zs (λ x h. dec z x)) [
  | inl f ↦ inl (
    z,
    f.0,
    record {
      before = [];
      between = f.1.before;
      after = f.1.after;
      split = ap (λ ys. z ∷ ys) f.1.split;
      holds = f.1.holds;
      none_before = λ front back u v e h r. not_nil front u back (sym e);
      none_between = f.1.none_before;
    },
  )
  | inr none ↦ elim (pair_or_none R dec zs) [
    | inr later ↦ inr (no_pair_more R z zs none later)
    | inl g ↦ inl (
      g.0,
      g.1,
      record {
        before = z ∷ g.2.before;
        between = g.2.between;
        after = g.2.after;
        split = ap (λ ys. z ∷ ys) g.2.split;
        holds = g.2.holds;
        none_before = none_before_more R z g.2.before (g.0 ∷ (g.2.between ++ g.1 ∷ g.2.after)) (λ v h r. none v (subst (λ ys. Contains ys v) (sym g.2.split) h) r) g.2.none_before;
        none_between = g.2.none_between;
      },
    )
  ]
]

-- two positions in one list: the same, or one before the other
abbrev Positions : {X : Type 0} → List X → X → List X → List X → X → List X → Type 0
Positions {X} a x us b y vs =
    ((a ≡ b) × (x ≡ y) × (us ≡ vs)) ⊎ (((rest : List X) × (b ≡ a ++ x ∷ rest) × (us ≡ rest ++ y ∷ vs)) ⊎ ((rest : List X) × (a ≡ b ++ y ∷ rest) × (vs ≡ rest ++ x ∷ us)))

positions : {X : Type 0} (a us b vs : List X) (x y : X) → a ++ x ∷ us ≡ b ++ y ∷ vs → Positions a x us b y vs
positions [] us [] vs x y e = let s = tail_same x y us vs e in inl (refl, s.0, s.1)
positions [] us (c ∷ b) vs x y e = let s = tail_same x c us (b ++ y ∷ vs) e in inr (inl (b, ap (λ z. z ∷ b) (sym s.0), s.1))
positions (c ∷ a) us [] vs x y e = let s = tail_same c y (a ++ x ∷ us) vs e in inr (inr (a, ap (λ z. z ∷ a) s.0, sym s.1))
positions (c ∷ a) us (d ∷ b) vs x y e =
    let s = tail_same c d (a ++ x ∷ us) (b ++ y ∷ vs) e in
    elim (positions a us b vs x y s.1) [
      | inl h ↦ inl (ap (λ z. z ∷ a) s.0 ∙ ap (λ zs. d ∷ zs) h.0, h.1, h.2)
      | inr k ↦ elim k [
        | inl h ↦ inr (inl (h.0, ap (λ z. z ∷ b) (sym s.0) ∙ ap (λ zs. c ∷ zs) h.1, h.2))
        | inr h ↦ inr (inr (h.0, ap (λ z. z ∷ a) s.0 ∙ ap (λ zs. d ∷ zs) h.1, h.2))
      ]
    ]

pub one_first : {X : Type 0} (P : X → Type 0) (xs : List X) (x y : X) → IsFirst P xs x → IsFirst P xs y → x ≡ y
one_first P xs x y p q = elim (positions p.before p.after q.before q.after x y (sym p.split ∙ q.split)) [
  | inl same ↦ same.1
  | inr k ↦ elim k [
    | inl h ↦ absurd (q.none_before x (subst (λ ys. Contains ys x) (sym h.1) (Contains-middle p.before x h.0)) p.holds)
    | inr h ↦ absurd (p.none_before y (subst (λ ys. Contains ys y) (sym h.1) (Contains-middle q.before y h.0)) q.holds)
  ]
]

pub one_pair : {X : Type 0} (R : X → X → Type 0) (xs : List X) (x y v w : X) → IsFirstPair R xs x y → IsFirstPair R xs v w → (x ≡ v) × (y ≡ w)
one_pair R xs x y v w p q = elim (positions p.before (p.between ++ y ∷ p.after) q.before (q.between ++ w ∷ q.after) x v (sym p.split ∙ q.split)) [
  | inr k ↦ elim k [
    | inl h ↦
        let inside : Contains (h.0 ++ v ∷ (q.between ++ w ∷ q.after)) y = subst (λ ys. Contains ys y) h.2 (Contains-middle p.between y p.after) in
        absurd (q.none_before p.before h.0 x y h.1 inside p.holds)
    | inr h ↦
        let inside : Contains (h.0 ++ x ∷ (p.between ++ y ∷ p.after)) w = subst (λ ys. Contains ys w) h.2 (Contains-middle q.between w q.after) in
        absurd (p.none_before q.before h.0 v w h.1 inside q.holds)
  ]
  | inl same ↦ elim (positions p.between p.after q.between q.after y w same.2) [
    | inl h ↦ (same.1, h.1)
    | inr k ↦ elim k [
      | inl h ↦ absurd (q.none_between y (subst (λ ys. Contains ys y) (sym h.1) (Contains-middle p.between y h.0)) (subst (λ z. R z y) same.1 p.holds))
      | inr h ↦ absurd (p.none_between w (subst (λ ys. Contains ys w) (sym h.1) (Contains-middle q.between w h.0)) (subst (λ z. R z w) (sym same.1) q.holds))
    ]
  ]
]

-- of two related members that are P each third that is P is related to one: then the first pair begins with the first that is P
pub none_like : {X : Type 0} (P : X → Type 0) (R : X → X → Type 0) (xs : List X) (x y : X) → ((z : X) → R x y → P z → R z x ⊎ R z y) → (p : IsFirstPair R xs x y) → (z : X) → Contains p.before z → P z → ⊥
none_like P R xs x y parts p z h e =
    let s = split p.before z h in
    elim (parts z p.holds e) [
      | inl r ↦ p.none_before s.0 s.1 z x s.2 (Contains-middle s.1 x (p.between ++ y ∷ p.after)) r
      | inr r ↦ p.none_before s.0 s.1 z y s.2 (Contains-append_right s.1 (x ∷ (p.between ++ y ∷ p.after)) y (Contains_there x y (p.between ++ y ∷ p.after) (Contains-middle p.between y p.after))) r
    ]

pub first_of_like : {X : Type 0} (P : X → Type 0) (R : X → X → Type 0) (xs : List X) (x y : X) → P x → ((z : X) → R x y → P z → R z x ⊎ R z y) → IsFirstPair R xs x y → IsFirst P xs x
first_of_like P R xs x y is parts p = record {
  before = p.before;
  after = p.between ++ y ∷ p.after;
  split = p.split;
  holds = is;
  none_before = none_like P R xs x y parts p;
}

-- ---- texts

pub statement_or_not : (s t : Statement) → (s ≡ t) ⊎ (s ≢ t)
statement_or_not s t = elim (cases_eq s.order t.order) [
  | inr ne ↦ inr (λ e. ne (ap (λ (x : Statement). x.order) e))
  | inl e0 ↦ elim (same_or_not s.path t.path) [
    | inr ne ↦ inr (λ e. ne (ap (λ (x : Statement). x.path) e))
    | inl e1 ↦ inl (statement_same s t e0 e1)
  ]
]

unlike_or_not : (x y : Text) → AreUnlike x y ⊎ (AreUnlike x y → ⊥)
unlike_or_not (OfStatement s) (OfStatement t) = elim (cases_eq s.order t.order) [
  | inr ne ↦ inr (λ d. ne d.0)
  | inl e0 ↦ elim (statement_or_not s t) [ inl e ↦ inr (λ d. d.1 e) | inr ne ↦ inl (e0, ne) ]
]
unlike_or_not (OfStatement s) (OfHead t) = inr (λ d. d)
unlike_or_not (OfHead s) (OfStatement t) = inr (λ d. d)
unlike_or_not (OfHead s) (OfHead t) = elim (head_or_not s t) [ inl e ↦ inr (λ d. d e) | inr ne ↦ inl ne ]

pub differ_or_not : (x y : SignedText) → AreDifferent x y ⊎ (AreDifferent x y → ⊥)
differ_or_not x y = unlike_or_not x.text y.text

-- two texts of one subject are unlike or the same
pub unlike_or_same : (x y : Text) → subject_of x ≡ subject_of y → AreUnlike x y ⊎ (x ≡ y)
unlike_or_same (OfStatement s) (OfStatement t) e = elim (statement_or_not s t) [
  | inl same ↦ inr (ap OfStatement same)
  | inr ne ↦ let orders : s.order ≡ t.order = omega (arith, e) in inl (orders, ne)
]
unlike_or_same (OfStatement s) (OfHead t) e = absurd (omega (arith, e))
unlike_or_same (OfHead s) (OfStatement t) e = absurd (omega (arith, e))
unlike_or_same (OfHead s) (OfHead t) e = elim (head_or_not s t) [ inl same ↦ inr (ap OfHead same) | inr ne ↦ inl ne ]

pub turned : (x y : Text) → AreUnlike x y → AreUnlike y x
turned (OfStatement s) (OfStatement t) d = (sym d.0, λ e. d.1 (sym e))
turned (OfStatement s) (OfHead t) d = d
turned (OfHead s) (OfStatement t) d = d
turned (OfHead s) (OfHead t) d = λ e. d (sym e)

pub not_itself : (x : Text) → AreUnlike x x → ⊥
not_itself (OfStatement s) d = d.1 refl
not_itself (OfHead s) d = d refl

positions_part : (x y z : SignedText) → AreDifferent x y → AreAlike x z → AreDifferent z x ⊎ AreDifferent z y
positions_part x y z d e = elim (unlike_or_same z.text x.text e) [
  | inl ne ↦ inl ne
  | inr same ↦ inr (subst (λ (t : Text). AreUnlike t y.text) (sym same) d)
]

pub first_of_subject : FirstOfSubject
first_of_subject texts x y p = first_of_like (AreAlike x) AreDifferent texts x y refl (positions_part x y) p

pub commands_part : (x y z : Text) → DifferInOrder x y → IsByCommander z → DifferInOrder z x ⊎ DifferInOrder z y
commands_part (OfStatement s) (OfStatement t) (OfStatement u) d is = elim (cases_eq u.order s.order) [
  | inr ne ↦ inl (is, d.0, ne)
  | inl e ↦ inr (is, d.1, λ other. d.2 (sym e ∙ other))
]
commands_part (OfStatement s) (OfStatement t) (OfHead u) d is = absurd is
commands_part (OfStatement s) (OfHead t) z d is = absurd d
commands_part (OfHead s) (OfStatement t) z d is = absurd d
commands_part (OfHead s) (OfHead t) z d is = absurd d

pub is_command : (x y : Text) → DifferInOrder x y → IsByCommander x
is_command (OfStatement s) (OfStatement t) d = d.0
is_command (OfStatement s) (OfHead t) d = absurd d
is_command (OfHead s) (OfStatement t) d = absurd d
is_command (OfHead s) (OfHead t) d = absurd d

pub first_command : FirstCommand
first_command texts x y p = first_of_like IsCommand AreOrders texts x y (is_command x.text y.text p.holds) (λ z. commands_part x.text y.text z.text) p

pub one_of_each : OneOfEach
one_of_each texts none x y c d alike = elim (unlike_or_same y.text x.text alike) [
  | inr e ↦ sym e
  | inl ne ↦ absurd (
      let k = split texts x c in
      let d1 : Contains (k.0 ++ x ∷ k.1) y = subst (λ xs. Contains xs y) k.2 d in
      elim (Contains-append_cases k.0 (x ∷ k.1) y d1) [
        | inl early ↦
            let m = split k.0 y early in
            let e : texts ≡ m.0 ++ y ∷ (m.1 ++ x ∷ k.1) = k.2 ∙ ap (λ xs. xs ++ x ∷ k.1) m.2 ∙ append_assoc m.0 (y ∷ m.1) (x ∷ k.1) in
            none m.0 (m.1 ++ x ∷ k.1) y x e (Contains-middle m.1 x k.1) ne
        | inr late ↦ elim (Contains_cases x y k.1 late) [
          | inl q ↦ not_itself y.text (subst (λ (z : SignedText). AreUnlike y.text z.text) q ne)
          | inr behind ↦ none k.0 k.1 x y k.2 behind (turned y.text x.text ne)
        ]
      ])
]

pub has_two_texts : HasTwoTexts
has_two_texts xs = pair_or_none AreDifferent differ_or_not xs

pub one_pair_of_texts : OneFirstPair
one_pair_of_texts xs x y v w p q = one_pair AreDifferent xs x y v w p q

-- ---- one pass

subject_pair : (texts : List SignedText) (u v : SignedText) → (p : IsFirstPair AreDifferent texts u v) → IsSubjectPair texts u v
subject_pair texts u v p = record {
  first = record {
    before = p.before;
    after = p.between ++ v ∷ p.after;
    split = p.split;
    holds = refl;
    none_before = none_like (AreAlike u) AreDifferent texts u v (positions_part u v) p;
  };
  second = record { before = p.between; after = p.after; split = refl; holds = p.holds; none_before = p.none_between };
}

first_inside : {X : Type 0} (P : X → Type 0) (xs : List X) (x : X) → IsFirst P xs x → Contains xs x
first_inside P xs x f = subst (λ ys. Contains ys x) (sym f.split) (Contains-middle f.before x f.after)

pub earliest_subject : EarliestSubject
unfolding subject_pair
earliest_subject texts x y s least = elim (has_two_texts texts) [
  | inr none ↦ absurd (none s.first.before s.first.after x y s.first.split (first_inside (AreDifferent x) s.first.after y s.second) s.second.holds)
  | inl found ↦
      let u = found.0 in
      let v = found.1 in
      let p = found.2 in
      let early : length s.first.before ≤ length p.before = least u v (subject_pair texts u v p) in
      elim (positions s.first.before s.first.after p.before (p.between ++ v ∷ p.after) x u (sym s.first.split ∙ p.split)) [
        | inl same ↦
            let rest : IsFirst (AreDifferent x) (p.between ++ v ∷ p.after) y = subst (λ zs. IsFirst (AreDifferent x) zs y) same.2 s.second in
            let other : IsFirst (AreDifferent u) (p.between ++ v ∷ p.after) v = record { before = p.between; after = p.after; split = refl; holds = p.holds; none_before = p.none_between } in
            let here : IsFirst (AreDifferent u) (p.between ++ v ∷ p.after) y = subst (λ z. IsFirst (AreDifferent z) (p.between ++ v ∷ p.after) y) same.1 rest in
            let e : v ≡ y = one_first (AreDifferent u) (p.between ++ v ∷ p.after) v y other here in
            subst (λ z. IsFirstPair AreDifferent texts z y) (sym same.1) (subst (λ z. IsFirstPair AreDifferent texts u z) e p)
        | inr k ↦ elim k [
          | inl h ↦
              let inside : Contains (h.0 ++ u ∷ (p.between ++ v ∷ p.after)) y = subst (λ zs. Contains zs y) h.2 (first_inside (AreDifferent x) s.first.after y s.second) in
              absurd (p.none_before s.first.before h.0 x y h.1 inside s.second.holds)
          | inr h ↦ absurd (omega (arith, early, ap length h.1, length-append p.before (u ∷ h.0)))
        ]
      ]
]
