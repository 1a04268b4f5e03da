-- The first member of a list that passes a test.
use Rattle.std.proofs.Common.{◌≡◌, Bool, true, false, cond, Some, None, List, [], ◌∷◌, ◌++◌, Contains, refl, sym, ap, subst, ◌∙◌, inl, inr, append_assoc}
use Rattle.std.specs.List.{find, flat_map}
use Rattle.std.proofs.lemmas.List.Elements.{Contains-append_cases, Contains-append_right}
use Rattle.gen_types.proofs.Lists.{bool_cases, Contains-middle, Contains_here, Contains_there, Contains_cases, Contains_nil}
use Rattle.gen_convict.specs.Firsts.{IsFirst, IsFirstPair}

-- a test tells whether something has a property
pub record Tests {X : Type 0} (P : X → Type 0) (test : X → Bool) : Type 0 where
  pub gives : (x : X) → test x ≡ true → P x
  pub told : (x : X) → P x → test x ≡ true

pub fails : {X : Type 0} (P : X → Type 0) (test : X → Bool) → Tests P test → (x : X) → test x ≡ false → P x → ⊥
fails P test t x e p = let q : false ≡ true = sym e ∙ t.told x p in absurd cc

pub find_first : {X : Type 0} (P : X → Type 0) (test : X → Bool) → Tests P test → (xs : List X) (x : X) → find test xs ≡ Some x → IsFirst P xs x
find_first P test t [] x e = absurd cc
find_first P test t (y ∷ ys) x e = elim (bool_cases (test y)) [
  | inl passes ↦
      let e1 : Some y ≡ Some x = rw passes at e in
      let same : y ≡ x = cc in
      subst (IsFirst P (y ∷ ys)) same (record { before = []; after = ys; split = refl; holds = t.gives y passes; none_before = λ z h q. Contains_nil z h })
  | inr not_it ↦
      let e1 : find test ys ≡ Some x = rw not_it at e in
      let f = find_first P test t ys x e1 in
      record {
        before = y ∷ f.before;
        after = f.after;
        split = ap (λ zs. y ∷ zs) f.split;
        holds = f.holds;
        none_before = λ z h q. elim (Contains_cases y z f.before h) [ inl same ↦ fails P test t y not_it (subst P (sym same) q) | inr k ↦ f.none_before z k q ];
      }
]

pub find_none : {X : Type 0} (P : X → Type 0) (test : X → Bool) → Tests P test → (xs : List X) → find test xs ≡ None → (x : X) → Contains xs x → P x → ⊥
find_none P test t [] e x h p = Contains_nil x h
find_none P test t (y ∷ ys) e x h p = elim (bool_cases (test y)) [
  | inl passes ↦ let e1 : Some y ≡ None = rw passes at e in absurd cc
  | inr not_it ↦
      let e1 : find test ys ≡ None = rw not_it at e in
      elim (Contains_cases y x ys h) [ inl same ↦ fails P test t y not_it (subst P (sym same) p) | inr k ↦ find_none P test t ys e1 x k p ]
]

-- what passes is a member
pub find_in : {X : Type 0} (test : X → Bool) (xs : List X) (x : X) → find test xs ≡ Some x → Contains xs x × (test x ≡ true)
find_in test [] x e = absurd cc
find_in test (y ∷ ys) x e = elim (bool_cases (test y)) [
  | inl passes ↦
      let e1 : Some y ≡ Some x = rw passes at e in
      let same : y ≡ x = cc in
      subst (λ z. Contains (y ∷ ys) z × (test z ≡ true)) same (Contains_here y ys, passes)
  | inr not_it ↦
      let e1 : find test ys ≡ Some x = rw not_it at e in
      let f = find_in test ys x e1 in
      (Contains_there y x ys f.0, f.1)
]

-- tests that say the same find the same
pub find_same : {X : Type 0} (test other : X → Bool) → ((x : X) → test x ≡ other x) → (xs : List X) → find test xs ≡ find other xs
find_same test other same [] = refl
find_same test other same (x ∷ xs) = ap (λ b. cond b (Some x) (find test xs)) (same x) ∙ ap (λ r. cond (other x) (Some x) r) (find_same test other same xs)

-- what fails in front may be left out
pub find_behind : {X : Type 0} (test : X → Bool) (front rest : List X) → ((z : X) → Contains front z → test z ≡ false) → find test (front ++ rest) ≡ find test rest
find_behind test [] rest none = refl
find_behind test (x ∷ xs) rest none =
    ap (λ b. cond b (Some x) (find test (xs ++ rest))) (none x (Contains_here x xs))
    ∙ find_behind test xs rest (λ z h. none z (Contains_there x z xs h))

pub is_false : (b : Bool) → (b ≡ true → ⊥) → b ≡ false
is_false true none = absurd (none refl)
is_false false none = refl

-- The first pair of a list: x is the first with a property that all members that are related to others have, and y is the
-- first that is related to x.
pub pair_found : {X : Type 0} (R : X → X → Type 0) (P : X → Type 0) (test : X → Bool) (xs : List X) (x y : X) → IsFirst P xs x → ((z w : X) → Contains xs z → Contains xs w → R z w → P z) → (R x x → ⊥) → ((z : X) → R x z → R z x) → Tests (R x) test → find test xs ≡ Some y → IsFirstPair R xs x y
pair_found {X = X} R P test xs x y f has alone turn t e =
    let inside : Contains xs x = subst (λ ys. Contains ys x) (sym f.split) (Contains-middle f.before x f.after) in
    let front : (z : X) → Contains f.before z → Contains xs z = λ z h. subst (λ ys. Contains ys z) (sym f.split) (in_front f.before (x ∷ f.after) z h) in
    let none : (z : X) → Contains f.before z → test z ≡ false = λ z h. is_false (test z) (λ p. f.none_before z h (has z x (front z h) inside (turn z (t.gives z p)))) in
    let self : test x ≡ false = is_false (test x) (λ p. alone (t.gives x p)) in
    let e1 : find test (f.before ++ x ∷ f.after) ≡ Some y = ap (find test) (sym f.split) ∙ e in
    let e2 : find test (x ∷ f.after) ≡ Some y = sym (find_behind test f.before (x ∷ f.after) none) ∙ e1 in
    let e3 : find test f.after ≡ Some y = sym (ap (λ b. cond b (Some x) (find test f.after)) self) ∙ e2 in
    let g = find_first (R x) test t f.after y e3 in
    record {
      before = f.before;
      between = g.before;
      after = g.after;
      split = f.split ∙ ap (λ zs. f.before ++ x ∷ zs) g.split;
      holds = g.holds;
      none_before = λ start back u v s h r.
          let u_in : Contains f.before u = subst (λ ys. Contains ys u) (sym s) (Contains-middle start u back) in
          let all : xs ≡ start ++ u ∷ (back ++ x ∷ (g.before ++ y ∷ g.after)) = f.split ∙ ap (λ zs. f.before ++ x ∷ zs) g.split ∙ ap (λ zs. zs ++ x ∷ (g.before ++ y ∷ g.after)) s ∙ append_assoc start (u ∷ back) (x ∷ (g.before ++ y ∷ g.after)) in
          let v_in : Contains xs v = subst (λ ys. Contains ys v) (sym all) (Contains-append_right start (u ∷ (back ++ x ∷ (g.before ++ y ∷ g.after))) v (Contains_there u v (back ++ x ∷ (g.before ++ y ∷ g.after)) h)) in
          f.none_before u u_in (has u v (front u u_in) v_in r);
      none_between = g.none_before;
    }
  where
    in_front : {X : Type 0} (xs ys : List X) (z : X) → Contains xs z → Contains (xs ++ ys) z
    in_front [] ys z h = absurd (Contains_nil z h)
    in_front (x ∷ xs) ys z h = elim (Contains_cases x z xs h) [
      | inl same ↦ subst (λ w. Contains (x ∷ (xs ++ ys)) w) same (Contains_here x (xs ++ ys))
      | inr k ↦ Contains_there x z (xs ++ ys) (in_front xs ys z k)
    ]

-- ---- lists of lists

-- where a test passes there is one item, which has the property, and where it fails there is none that has it
pub record Singles {X Y : Type 0} (P : Y → Type 0) (test : X → Bool) (f : X → List Y) (x : X) : Type 0 where
  pub one : test x ≡ true → (y : Y) × (f x ≡ y ∷ []) × P y
  pub none : test x ≡ false → (y : Y) → Contains (f x) y → P y → ⊥

pub flat_first : {X Y : Type 0} (P : Y → Type 0) (test : X → Bool) (f : X → List Y) (xs : List X) → ((x : X) → Contains xs x → Singles P test f x) → (x : X) → find test xs ≡ Some x → (y : Y) × (f x ≡ y ∷ []) × IsFirst P (flat_map f xs) y
flat_first P test f [] all x e = absurd cc
flat_first P test f (z ∷ zs) all x e = elim (bool_cases (test z)) [
  | inl passes ↦
      let e1 : Some z ≡ Some x = rw passes at e in
      let same : z ≡ x = cc in
      let s = (all z (Contains_here z zs)).one passes in (
        s.0,
        ap f (sym same) ∙ s.1,
        record { before = []; after = flat_map f zs; split = ap (λ ys. ys ++ flat_map f zs) s.1; holds = s.2; none_before = λ y h q. Contains_nil y h },
      )
  | inr not_it ↦
      let e1 : find test zs ≡ Some x = rw not_it at e in
      let s = flat_first P test f zs (λ y h. all y (Contains_there z y zs h)) x e1 in
      let g = s.2 in (
        s.0,
        s.1,
        record {
          before = f z ++ g.before;
          after = g.after;
          split = ap (λ ys. f z ++ ys) g.split ∙ sym (append_assoc (f z) g.before (s.0 ∷ g.after));
          holds = g.holds;
          none_before = λ y h q. elim (Contains-append_cases (f z) g.before y h) [ inl k ↦ (all z (Contains_here z zs)).none not_it y k q | inr k ↦ g.none_before y k q ];
        },
      )
]

pub flat_none : {X Y : Type 0} (P : Y → Type 0) (test : X → Bool) (f : X → List Y) (xs : List X) → ((x : X) → Contains xs x → Singles P test f x) → find test xs ≡ None → (y : Y) → Contains (flat_map f xs) y → P y → ⊥
flat_none P test f [] all e y h p = Contains_nil y h
flat_none P test f (z ∷ zs) all e y h p = elim (bool_cases (test z)) [
  | inl passes ↦ let e1 : Some z ≡ None = rw passes at e in absurd cc
  | inr not_it ↦
      let e1 : find test zs ≡ None = rw not_it at e in
      elim (Contains-append_cases (f z) (flat_map f zs) y h) [
        | inl k ↦ (all z (Contains_here z zs)).none not_it y k p
        | inr k ↦ flat_none P test f zs (λ x c. all x (Contains_there z x zs c)) e1 y k p
      ]
]
