-- Edges whose ends are renamed: none is bad, and they join whom they joined.
use Rattle.std.proofs.Common.{◌≡◌, ◌<◌, ◌≤◌, ◌+◌, ◌-◌, ◌⊎◌, ◌↔◌, inl, inr, ℕ, Bool, true, false, ◌&&◌, eqb, ltb, List, [], ◌∷◌, map, filter, Contains, AllPairs, refl, sym, ap, subst, ◌∙◌, arith}
use Rattle.std.specs.List.{list_any, flat_map, range_with_len}
use Rattle.std.proofs.lemmas.Bool.{cases_lt, eq-eqb, eqb-true, lt-ltb, ne_eqb}
use Rattle.std.proofs.lemmas.List.Concat.{flat_map-cons}
use Rattle.std.proofs.lemmas.List.Elements.{All-contains, Contains-append_left, Contains-append_right}
use Rattle.gen_types.proofs.Decimals.{both}
use Rattle.gen_types.proofs.Lists.{bool_cases, Contains_here, Contains_there, Contains_cases, Contains_nil, Contains_filtered, Contains_mapped, Contains_in_range, AllPairs_head, AllPairs_tail}
use Rattle.gen_net.specs.Edges.{joins, has_bad_edge, row, pairs, edges_of}
use Rattle.gen_net.specs.Network.{IsBefore, AreEdges}

-- ---- members

Contains_map : {X Y : Type 0} (f : X → Y) (xs : List X) (x : X) → Contains xs x → Contains (map f xs) (f x)
Contains_map f [] x h = absurd (Contains_nil x h)
Contains_map {Y = Y} f (y ∷ xs) x h = elim (Contains_cases y x xs h) [
  | inl e ↦ subst (λ (z : Y). Contains (f y ∷ map f xs) z) (ap f e) (Contains_here (f y) (map f xs))
  | inr k ↦ Contains_there (f y) (f x) (map f xs) (Contains_map f xs x k)
]

Contains_filter : {X : Type 0} (p : X → Bool) (xs : List X) (x : X) → Contains xs x → p x ≡ true → Contains (filter p xs) x
Contains_filter p [] x h e = absurd (Contains_nil x h)
Contains_filter {X} p (y ∷ xs) x h e = elim (bool_cases (p y)) [
  | inl keeps ↦ elim (Contains_cases y x xs h) [
    | inl same ↦ rw keeps (subst (λ (z : X). Contains (y ∷ filter p xs) z) same (Contains_here y (filter p xs)))
    | inr k ↦ rw keeps (Contains_there y x (filter p xs) (Contains_filter p xs x k e))
  ]
  | inr drops ↦ elim (Contains_cases y x xs h) [
    | inl same ↦ let kept : p y ≡ true = ap p same ∙ e in absurd cc
    | inr k ↦ rw drops (Contains_filter p xs x k e)
  ]
]

Contains_flat : {X Y : Type 0} (f : X → List Y) (xs : List X) (x : X) (y : Y) → Contains xs x → Contains (f x) y → Contains (flat_map f xs) y
Contains_flat f [] x y h k = absurd (Contains_nil x h)
Contains_flat {Y = Y} f (z ∷ xs) x y h k = elim (Contains_cases z x xs h) [
  | inl e ↦ rw (flat_map-cons f z xs) (Contains-append_left (f z) (flat_map f xs) y (subst (λ (ys : List Y). Contains ys y) (sym (ap f e)) k))
  | inr later ↦ rw (flat_map-cons f z xs) (Contains-append_right (f z) (flat_map f xs) y (Contains_flat f xs x y later k))
]

any_told : {X : Type 0} (p : X → Bool) (xs : List X) (x : X) → Contains xs x → p x ≡ true → list_any p xs ≡ true
any_told p [] x h e = absurd (Contains_nil x h)
any_told p (y ∷ xs) x h e = elim (bool_cases (p y)) [
  | inl here ↦ rw here refl
  | inr not_here ↦ elim (Contains_cases y x xs h) [
    | inl same ↦ let kept : p y ≡ true = ap p same ∙ e in absurd cc
    | inr k ↦ rw not_here (any_told p xs x k e)
  ]
]

any_gives : {X : Type 0} (p : X → Bool) (xs : List X) → list_any p xs ≡ true → (x : X) × Contains xs x × (p x ≡ true)
any_gives p [] e = absurd cc
any_gives p (y ∷ xs) e = elim (bool_cases (p y)) [
  | inl here ↦ (y, Contains_here y xs, here)
  | inr not_here ↦
      let later : list_any p xs ≡ true = rw not_here at e in
      let r = any_gives p xs later in
      (r.0, Contains_there y r.0 xs r.1, r.2)
]

in_pairs : (n a b : ℕ) → a < b → b < n → Contains (pairs n) (a, b)
in_pairs n a b up below =
    let in_row : Contains (row n a) (a, b) = Contains_map (λ (c : ℕ). (a, c)) (range_with_len (a + 1) (n - (a + 1))) b (Contains_in_range (a + 1) (n - (a + 1)) b (omega arith) (omega arith)) in
    Contains_flat (row n) (range_with_len 0 n) a (a, b) (Contains_in_range 0 n a (omega arith) (omega arith)) in_row

-- ---- which pairs an edge joins

pair_false : (p a q b : ℕ) → (p ≡ a → q ≡ b → ⊥) → (eqb p a && eqb q b) ≡ false
pair_false p a q b differ = elim (bool_cases (eqb p a)) [
  | inl same ↦ rw same (ne_eqb q b (differ (eqb-true _ _ same)))
  | inr other ↦ rw other refl
]

joins_false : (a b : ℕ) (f : ℕ × ℕ) → (f.0 ≡ a → f.1 ≡ b → ⊥) → (f.0 ≡ b → f.1 ≡ a → ⊥) → joins a b f ≡ false
joins_false a b f differ crossed = rw (pair_false f.0 a f.1 b differ, pair_false f.0 b f.1 a crossed) refl

joins_told : (a b : ℕ) (f : ℕ × ℕ) → joins a b f ≡ true → ((f.0 ≡ a) × (f.1 ≡ b)) ⊎ ((f.0 ≡ b) × (f.1 ≡ a))
joins_told a b f h = elim (bool_cases (eqb f.0 a && eqb f.1 b)) [
  | inl e ↦ let r = both (eqb f.0 a) (eqb f.1 b) e in inl (eqb-true _ _ r.0, eqb-true _ _ r.1)
  | inr e ↦
      let crossed : (eqb f.0 b && eqb f.1 a) ≡ true = rw e at h in
      let r = both (eqb f.0 b) (eqb f.1 a) crossed in
      inr (eqb-true _ _ r.0, eqb-true _ _ r.1)
]

joins_same : (a b : ℕ) → joins a b (a, b) ≡ true
joins_same a b =
    let first : eqb a a ≡ true = eq-eqb a a refl in
    let second : eqb b b ≡ true = eq-eqb b b refl in
    rw (first, second) refl

joins_crossed : (a b : ℕ) → joins b a (a, b) ≡ true
joins_crossed a b =
    let first : eqb a a ≡ true = eq-eqb a a refl in
    let second : eqb b b ≡ true = eq-eqb b b refl in
    elim (bool_cases (eqb a b && eqb b a)) [
      | inl e ↦ rw e refl
      | inr e ↦ rw (e, first, second) refl
    ]

-- ---- renaming

-- names below n, and the way back
pub record IsRenaming (n : ℕ) (to back : ℕ → ℕ) : Type 0 where
  pub to_below : (v : ℕ) → v < n → to v < n
  pub back_to : (v : ℕ) → v < n → back (to v) ≡ v
  pub to_back : (g : ℕ) → g < n → to (back g) ≡ g

abbrev pub moved : (ℕ → ℕ) → List (ℕ × ℕ) → List (ℕ × ℕ)
moved to es = map (λ e. (to e.0, to e.1)) es

same_name : (n : ℕ) (to back : ℕ → ℕ) → IsRenaming n to back → (v w : ℕ) → v < n → w < n → to v ≡ to w → v ≡ w
same_name n to back r v w lv lw e = sym (r.back_to v lv) ∙ ap back e ∙ r.back_to w lw

none_joined : (n : ℕ) (to back : ℕ → ℕ) → IsRenaming n to back → (a b : ℕ) → a < b → b < n → (es : List (ℕ × ℕ))
    → ((c d : ℕ) → Contains es (c, d) → (c < d) × (d < n) × IsBefore (a, b) (c, d)) → list_any (joins (to a) (to b)) (moved to es) ≡ false
none_joined n to back r a b up below [] each = refl
none_joined n to back r a b up below (f ∷ es) each =
    let here = each f.0 f.1 (Contains_here f es) in
    let fl : f.0 < n = omega (arith, here.0, here.1) in
    let al : a < n = omega (arith, up, below) in
    let straight : to f.0 ≡ to a → to f.1 ≡ to b → ⊥ = λ p q.
    let x = same_name n to back r f.0 a fl al p in
    let y = same_name n to back r f.1 b here.1 below q in
    elim here.2 [ inl l ↦ omega (arith, x, l) | inr l ↦ omega (arith, y, l.1) ] in
    let crossed : to f.0 ≡ to b → to f.1 ≡ to a → ⊥ = λ p q.
    let x = same_name n to back r f.0 b fl below p in
    let y = same_name n to back r f.1 a here.1 al q in
    omega (arith, x, y, here.0, up) in
    rw (joins_false (to a) (to b) (to f.0, to f.1) straight crossed) (none_joined n to back r a b up below es (λ c d h. each c d (Contains_there f (c, d) es h)))

none_bad : (n : ℕ) (to back : ℕ → ℕ) → IsRenaming n to back → (es : List (ℕ × ℕ)) → ((a b : ℕ) → Contains es (a, b) → (a < b) × (b < n)) → AllPairs IsBefore es → has_bad_edge n (moved to es) ≡ false
none_bad n to back r [] inside ascend = refl
none_bad n to back r (e ∷ es) inside ascend =
    let here = inside e.0 e.1 (Contains_here e es) in
    let el : e.0 < n = omega (arith, here.0, here.1) in
    let first : ltb (to e.0) n ≡ true = lt-ltb _ _ (r.to_below e.0 el) in
    let second : ltb (to e.1) n ≡ true = lt-ltb _ _ (r.to_below e.1 here.1) in
    let differ : eqb (to e.0) (to e.1) ≡ false = ne_eqb (to e.0) (to e.1) (λ s. omega (arith, here.0, same_name n to back r e.0 e.1 el here.1 s)) in
    let others : list_any (joins (to e.0) (to e.1)) (moved to es) ≡ false = none_joined n to back r e.0 e.1 here.0 here.1 es (λ c d h.
    let k = inside c d (Contains_there e (c, d) es h) in
    (k.0, k.1, All-contains (IsBefore e) es (c, d) (AllPairs_head IsBefore e es ascend) h)) in
    let later = none_bad n to back r es (λ a b h. inside a b (Contains_there e (a, b) es h)) (AllPairs_tail IsBefore e es ascend) in
    rw (first, second, differ, others) later

pub no_bad_edge : (n : ℕ) (to back : ℕ → ℕ) → IsRenaming n to back → (es : List (ℕ × ℕ)) → AreEdges n es → has_bad_edge n (moved to es) ≡ false
no_bad_edge n to back r es edges = none_bad n to back r es edges.inside edges.ascending

-- ---- the same edges

abbrev pub Joined : List (ℕ × ℕ) → ℕ → ℕ → Type 0
Joined es a b = Contains es (a, b) ⊎ Contains es (b, a)

led_back : (n : ℕ) (to back : ℕ → ℕ) → IsRenaming n to back → (v g : ℕ) → v < n → to v ≡ g → v ≡ back g
led_back n to back r v g below e = sym (r.back_to v below) ∙ ap back e

one_way : (n : ℕ) (to back : ℕ → ℕ) → IsRenaming n to back → (es : List (ℕ × ℕ)) → AreEdges n es → (a b : ℕ) → Contains (edges_of n (moved to es)) (a, b) → Joined es (back a) (back b)
one_way n to back r es edges a b h =
    let kept = Contains_filtered (λ p. list_any (joins p.0 p.1) (moved to es)) (pairs n) (a, b) h in
    let some = any_gives (joins a b) (moved to es) kept.1 in
    let from = Contains_mapped (λ (e : ℕ × ℕ). (to e.0, to e.1)) es some.0 some.1 in
    let e = from.0 in
    let inside = edges.inside e.0 e.1 from.1 in
    let el : e.0 < n = omega (arith, inside.0, inside.1) in
    let left : to e.0 ≡ some.0.0 = ap (λ (p : ℕ × ℕ). p.0) from.2 in
    let right : to e.1 ≡ some.0.1 = ap (λ (p : ℕ × ℕ). p.1) from.2 in
    elim (joins_told a b some.0 some.2) [
      | inl s ↦
          let x = led_back n to back r e.0 a el (left ∙ s.0) in
          let y = led_back n to back r e.1 b inside.1 (right ∙ s.1) in
          let pair : e ≡ (back a, back b) = λ i. (x i, y i) in
          inl (subst (λ (f : ℕ × ℕ). Contains es f) pair from.1)
      | inr s ↦
          let x = led_back n to back r e.0 b el (left ∙ s.0) in
          let y = led_back n to back r e.1 a inside.1 (right ∙ s.1) in
          let pair : e ≡ (back b, back a) = λ i. (x i, y i) in
          inr (subst (λ (f : ℕ × ℕ). Contains es f) pair from.1)
    ]

below_of : (a b : ℕ) → b ≤ a → (a ≡ b → ⊥) → b < a
below_of a b le ne = omega (arith, le, ne)

other_way : (n : ℕ) (to back : ℕ → ℕ) → IsRenaming n to back → (es : List (ℕ × ℕ)) → AreEdges n es → (a b : ℕ) → a < n → b < n → Contains es (back a, back b) → Joined (edges_of n (moved to es)) a b
other_way n to back r es edges a b la lb h =
    let inside = edges.inside (back a) (back b) h in
    let apart : a ≡ b → ⊥ = λ e. omega (arith, inside.0, ap back e) in
    let P : ℕ × ℕ → Bool = λ p. list_any (joins p.0 p.1) (moved to es) in
    let given : Contains (moved to es) (to (back a), to (back b)) = Contains_map (λ (e : ℕ × ℕ). (to e.0, to e.1)) es (back a, back b) h in
    let pair : (to (back a), to (back b)) ≡ (a, b) = λ i. (r.to_back a la i, r.to_back b lb i) in
    let stands : Contains (moved to es) (a, b) = subst (λ (f : ℕ × ℕ). Contains (moved to es) f) pair given in
    elim (cases_lt a b) [
      | inl up ↦ inl (Contains_filter P (pairs n) (a, b) (in_pairs n a b up lb) (any_told (joins a b) (moved to es) (a, b) stands (joins_same a b)))
      | inr le ↦
          let down : b < a = below_of a b le apart in
          inr (Contains_filter P (pairs n) (b, a) (in_pairs n b a down la) (any_told (joins b a) (moved to es) (a, b) stands (joins_crossed a b)))
    ]

turned_round : {X Y : Type 0} → X ⊎ Y → Y ⊎ X
turned_round (inl x) = inr x
turned_round (inr y) = inl y

pub same_edges : (n : ℕ) (to back : ℕ → ℕ) → IsRenaming n to back → (es : List (ℕ × ℕ)) → AreEdges n es → (a b : ℕ) → a < n → b < n → Joined (edges_of n (moved to es)) a b ↔ Joined es (back a) (back b)
same_edges n to back r es edges a b la lb = (
  (λ h. elim h [
    | inl x ↦ one_way n to back r es edges a b x
    | inr y ↦ turned_round (one_way n to back r es edges b a y)
  ]),
  (λ h. elim h [
    | inl x ↦ other_way n to back r es edges a b la lb x
    | inr y ↦ turned_round (other_way n to back r es edges b a lb la y)
  ]),
)
