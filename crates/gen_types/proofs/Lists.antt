-- Lists: members, splits at a member, first places, and order.
use Rattle.std.proofs.Common.{◌≡◌, ◌≢◌, ℕ, zero, suc, ◌+◌, ◌<◌, ◌≤◌, ◌⊎◌, inl, inr, Bool, true, List, [], ◌∷◌, ◌++◌, length, map, filter, get_or, Contains, All, AllPairs, refl, sym, ap, subst, ◌∙◌, arith, length-append, not-suc-le-zero}
use Rattle.std.specs.List.{flat_map, range_with_len}
use Rattle.std.proofs.lemmas.List.Elements.{All-contains, All-contains_itself, All-weaker, Contains-append_cases, Contains-append_right}
use Rattle.std.proofs.lemmas.List.Concat.{flat_map-cons}
use Rattle.std.proofs.lemmas.List.Kept.{AllPairs-cons}
use Rattle.std.proofs.lemmas.List.{get_or_append_left}
use Rattle.std.proofs.lemmas.Bool.{cases_eq}
use Rattle.std.proofs.lemmas.Bool.Decides.{Decides-eqb}
use Rattle.std.proofs.lemmas.Cmp.{nat_eq_equiv}
use Rattle.std.proofs.lemmas.Map.Made.{length-le_from_is_member, IsDistinct-from_AllPairs, is_member-Decides}
use Rattle.gen_types.specs.Ascending.{IsListOf}
pub use Rattle.gen_types.specs.Members.{Contains_here, Contains_there, Contains_cases, Contains_nil, bool_cases}

-- ys is xs with y at the place where front ends
abbrev pub SplitAt : {X : Type 0} → List X → X → Type 0
SplitAt {X} xs y = (front : List X) × (back : List X) × (xs ≡ front ++ y ∷ back)

pub split : {X : Type 0} (xs : List X) (y : X) → Contains xs y → SplitAt xs y
split [] y h = absurd (Contains_nil y h)
split (x ∷ xs) y h = elim (Contains_cases x y xs h) [
  | inl e ↦ ([], xs, ap (λ z. z ∷ xs) e)
  | inr k ↦ let s = split xs y k in (x ∷ s.0, s.1, ap (λ zs. x ∷ zs) s.2)
]

pub Contains-middle : {X : Type 0} (front : List X) (y : X) (back : List X) → Contains (front ++ y ∷ back) y
Contains-middle front y back = Contains-append_right front (y ∷ back) y (Contains_here y back)

-- membership of a number in a list is decided
pub decide_contains : (xs : List ℕ) (y : ℕ) → Contains xs y ⊎ (Contains xs y → ⊥)
decide_contains [] y = inr (Contains_nil y)
decide_contains (x ∷ xs) y = elim (cases_eq x y) [
  | inl e ↦ inl (subst (λ z. Contains (x ∷ xs) z) e (Contains_here x xs))
  | inr ne ↦ elim (decide_contains xs y) [
    | inl h ↦ inl (Contains_there x y xs h)
    | inr no_h ↦ inr (λ h. elim (Contains_cases x y xs h) [ inl e ↦ ne e | inr k ↦ no_h k ])
  ]
]

-- whether some member has a decided property
pub decide_some : {X : Type 0} (P : X → Type 0) → ((x : X) → P x ⊎ (P x → ⊥)) → (xs : List X) → ((x : X) × Contains xs x × P x) ⊎ ((x : X) → Contains xs x → P x → ⊥)
decide_some P dec [] = inr (λ x h p. Contains_nil x h)
decide_some P dec (x ∷ xs) = elim (dec x) [
  | inl p ↦ inl (x, Contains_here x xs, p)
  | inr no_p ↦ elim (decide_some P dec xs) [
    | inl f ↦ inl (f.0, Contains_there x f.0 xs f.1, f.2)
    | inr none ↦ inr (λ y h p. elim (Contains_cases x y xs h) [ inl e ↦ no_p (subst P (sym e) p) | inr k ↦ none y k p ])
  ]
]

-- the least number at which a decided property holds
pub below_or_least : (P : ℕ → Type 0) → ((n : ℕ) → P n ⊎ (P n → ⊥)) → (n : ℕ) → ((k : ℕ) → k < n → P k → ⊥) ⊎ ((k : ℕ) × (k < n) × P k × ((j : ℕ) → j < k → P j → ⊥))
below_or_least P dec zero = inl (λ k l p. not-suc-le-zero l)
below_or_least P dec (suc n) = elim (below_or_least P dec n) [
  | inr f ↦ inr (f.0, omega (arith, f.1), f.2, f.3)
  | inl none ↦ elim (dec n) [
    | inl p ↦ inr (n, omega arith, p, none)
    | inr no_p ↦ inl (λ k l p. elim (cases_eq k n) [ inl e ↦ no_p (subst P e p) | inr ne ↦ none k (omega arith) p ])
  ]
]

pub least : (P : ℕ → Type 0) → ((n : ℕ) → P n ⊎ (P n → ⊥)) → (n : ℕ) → P n → (k : ℕ) × (k ≤ n) × P k × ((j : ℕ) → j < k → P j → ⊥)
least P dec n p = elim (below_or_least P dec (suc n)) [
  | inl none ↦ absurd (none n (omega arith) p)
  | inr f ↦ (f.0, omega (arith, f.1), f.2, f.3)
]

pub not_nil : {X : Type 0} (front : List X) (y : X) (back : List X) → front ++ y ∷ back ≡ [] → ⊥
not_nil [] y back e = cc
not_nil (x ∷ front) y back e = cc

-- a member of a list with one more at its end is that one, or splits what is before it
pub split_longer : {X : Type 0} (front back list : List X) (y last : X) → front ++ y ∷ back ≡ list ++ last ∷ [] → ((y ≡ last) × (front ≡ list)) ⊎ ((rest : List X) × (list ≡ front ++ y ∷ rest))
split_longer [] back [] y last e = inl ((cc), refl)
split_longer [] back (b ∷ list) y last e = inr (list, cc)
split_longer (f ∷ front) back [] y last e = absurd (not_nil front y back (cc))
split_longer (f ∷ front) back (b ∷ list) y last e = elim (split_longer front back list y last (cc)) [
  | inl h ↦ let e0 : y ≡ last = h.0 in let e1 : front ≡ list = h.1 in let e2 : f ≡ b = cc in inl (e0, cc)
  | inr h ↦ let e1 : list ≡ front ++ y ∷ h.0 = h.1 in inr (h.0, cc)
]

-- a member that is not in what follows a front stands in that front
pub split_front : {X : Type 0} (front back list after : List X) (y : X) → front ++ y ∷ back ≡ list ++ after → (Contains after y → ⊥) → (rest : List X) × (list ≡ front ++ y ∷ rest)
split_front front back [] after y e out = absurd (out (subst (λ zs. Contains zs y) e (Contains-middle front y back)))
split_front [] back (b ∷ list) after y e out = (list, cc)
split_front (f ∷ front) back (b ∷ list) after y e out = let h = split_front front back list after y (cc) out in let e1 : list ≡ front ++ y ∷ h.0 = h.1 in let e2 : f ≡ b = cc in (h.0, cc)

-- the first member with a decided property
pub first_member : (P : ℕ → Type 0) → ((n : ℕ) → P n ⊎ (P n → ⊥)) → (xs : List ℕ) → ((x : ℕ) → Contains xs x → P x → ⊥) ⊎ ((front : List ℕ) × (y : ℕ) × (back : List ℕ) × (xs ≡ front ++ y ∷ back) × P y × ((x : ℕ) → Contains front x → P x → ⊥))
first_member P dec [] = inl (λ x h p. Contains_nil x h)
first_member P dec (x ∷ xs) = elim (dec x) [
  | inl p ↦ inr ([], x, xs, refl, p, λ y h q. Contains_nil y h)
  | inr no_p ↦ elim (first_member P dec xs) [
    | inl none ↦ inl (λ y h p. elim (Contains_cases x y xs h) [ inl e ↦ no_p (subst P (sym e) p) | inr k ↦ none y k p ])
    | inr f ↦ inr (x ∷ f.0, f.1, f.2, ap (λ zs. x ∷ zs) f.3, f.4, λ y h p. elim (Contains_cases x y f.0 h) [ inl e ↦ no_p (subst P (sym e) p) | inr k ↦ f.5 y k p ])
  ]
]

-- distinct numbers that all stand in a list are at most as many
pub length-le_from_distinct : (xs ys : List ℕ) → AllPairs (λ a b. a ≢ b) xs → ((x : ℕ) → Contains xs x → Contains ys x) → length xs ≤ length ys
length-le_from_distinct xs ys apart inside = length-le_from_is_member nat_eq_equiv xs ys (IsDistinct-from_AllPairs Decides-eqb xs apart) (λ q h. (is_member-Decides Decides-eqb ys q).1 (inside q ((is_member-Decides Decides-eqb xs q).0 h)))

pub AllPairs-front : (front back : List ℕ) → AllPairs (λ a b. a ≢ b) (front ++ back) → AllPairs (λ a b. a ≢ b) front
AllPairs-front front back apart i j d l m =
    let mj : j < length (front ++ back) = omega (arith, length-append front back) in
    let li : i < length front = omega arith in
    let h : get_or (front ++ back) i d ≢ get_or (front ++ back) j d = apart i j d l mj in
    let ei : get_or (front ++ back) i d ≡ get_or front i d = get_or_append_left front back d i li in
    let ej : get_or (front ++ back) j d ≡ get_or front j d = get_or_append_left front back d j m in
    λ e. h (cc)

-- a member of what a filter keeps is a member, and passes
pub Contains_filtered : {X : Type 0} (p : X → Bool) (xs : List X) (y : X) → Contains (filter p xs) y → Contains xs y × (p y ≡ true)
Contains_filtered p [] y h = absurd (Contains_nil y h)
Contains_filtered p (x ∷ xs) y h = elim (bool_cases (p x)) [
  | inl e ↦
      let longer : Contains (x ∷ filter p xs) y = rw e at h in
      elim (Contains_cases x y (filter p xs) longer) [
        | inl same ↦ (subst (λ z. Contains (x ∷ xs) z) same (Contains_here x xs), subst (λ z. p z ≡ true) same e)
        | inr k ↦ let r = Contains_filtered p xs y k in (Contains_there x y xs r.0, r.1)
      ]
  | inr e ↦ let shorter : Contains (filter p xs) y = rw e at h in let r = Contains_filtered p xs y shorter in (Contains_there x y xs r.0, r.1)
]

-- what a member of a mapped list comes from
pub Contains_mapped : {X Y : Type 0} (f : X → Y) (xs : List X) (y : Y) → Contains (map f xs) y → (x : X) × Contains xs x × (f x ≡ y)
Contains_mapped f [] y h = absurd (Contains_nil y h)
Contains_mapped f (x ∷ xs) y h = elim (Contains_cases (f x) y (map f xs) h) [
  | inl e ↦ (x, Contains_here x xs, e)
  | inr k ↦ let r = Contains_mapped f xs y k in (r.0, Contains_there x r.0 xs r.1, r.2)
]

-- and of a list of lists, joined
pub Contains_flat_mapped : {X Y : Type 0} (f : X → List Y) (xs : List X) (y : Y) → Contains (flat_map f xs) y → (x : X) × Contains xs x × Contains (f x) y
Contains_flat_mapped f [] y h = absurd (Contains_nil y h)
Contains_flat_mapped f (x ∷ xs) y h =
    let joined : Contains (f x ++ flat_map f xs) y = rw flat_map-cons at h in
    elim (Contains-append_cases (f x) (flat_map f xs) y joined) [
      | inl l ↦ (x, Contains_here x xs, l)
      | inr r ↦ let k = Contains_flat_mapped f xs y r in (k.0, Contains_there x k.0 xs k.1, k.2)
    ]

-- a number of a range is in it
pub Contains_range : (a n v : ℕ) → Contains (range_with_len a n) v → (a ≤ v) × (v < a + n)
Contains_range a zero v h = absurd (Contains_nil v h)
Contains_range a (suc n) v h = elim (Contains_cases a v (range_with_len (a + 1) n) h) [
  | inl e ↦ (omega arith, omega arith)
  | inr k ↦ let r = Contains_range (a + 1) n v k in (omega (arith, r.0), omega (arith, r.1))
]

pub Contains_in_range : (a n v : ℕ) → a ≤ v → v < a + n → Contains (range_with_len a n) v
Contains_in_range a zero v low high = absurd (omega arith)
Contains_in_range a (suc n) v low high = elim (cases_eq a v) [
  | inl e ↦ subst (λ w. Contains (a ∷ range_with_len (a + 1) n) w) e (Contains_here a (range_with_len (a + 1) n))
  | inr ne ↦ Contains_there a v (range_with_len (a + 1) n) (Contains_in_range (a + 1) n v (omega arith) (omega arith))
]

-- a pairwise relation holds of the first element and each later one, and in the rest
pub AllPairs_head : {X : Type 0} (R : X → X → Type 0) (x : X) (xs : List X) → AllPairs R (x ∷ xs) → All (R x) xs
AllPairs_head R x xs h k d l = h 0 (suc k) d (omega arith) (omega (arith, l))

pub AllPairs_tail : {X : Type 0} (R : X → X → Type 0) (x : X) (xs : List X) → AllPairs R (x ∷ xs) → AllPairs R xs
AllPairs_tail R x xs h i j d l m = h (suc i) (suc j) d (omega (arith, l)) (omega (arith, m))

-- what holds of each member holds of all
pub All_of : {X : Type 0} (P : X → Type 0) (xs : List X) → ((x : X) → Contains xs x → P x) → All P xs
All_of P xs h = All-weaker (Contains xs) P h xs (All-contains_itself xs)

-- a pairwise relation in two lists and between them holds in the joined list
pub AllPairs-append : {X : Type 0} (R : X → X → Type 0) (xs ys : List X) → AllPairs R xs → AllPairs R ys → ((x y : X) → Contains xs x → Contains ys y → R x y) → AllPairs R (xs ++ ys)
AllPairs-append R [] ys first second between = second
AllPairs-append R (x ∷ xs) ys first second between =
    AllPairs-cons R x (xs ++ ys) (All_of (R x) (xs ++ ys) (λ y h. elim (Contains-append_cases xs ys y h) [
      | inl l ↦ All-contains (R x) xs y (AllPairs_head R x xs first) l
      | inr r ↦ between x y (Contains_here x xs) r
    ]))
    (AllPairs-append R xs ys (AllPairs_tail R x xs first) second (λ a b ha hb. between a b (Contains_there x a xs ha) hb))

-- a list that ascends strictly has its least number first
head_least : (x : ℕ) (xs : List ℕ) (y : ℕ) → AllPairs (λ v w. v < w) (x ∷ xs) → Contains (x ∷ xs) y → x ≤ y
head_least x xs y up h = elim (Contains_cases x y xs h) [
  | inl e ↦ omega arith
  | inr k ↦ let lt : x < y = All-contains (λ z. x < z) xs y (AllPairs_head (λ v w. v < w) x xs up) k in omega arith
]

-- and doesn't have it again
head_once : (x : ℕ) (xs : List ℕ) → AllPairs (λ v w. v < w) (x ∷ xs) → Contains xs x → ⊥
head_once x xs up h = let lt : x < x = All-contains (λ z. x < z) xs x (AllPairs_head (λ v w. v < w) x xs up) h in absurd (omega arith)

-- two lists that ascend strictly and have the same members are one
pub ascending_one : (xs ys : List ℕ) → AllPairs (λ v w. v < w) xs → AllPairs (λ v w. v < w) ys → ((v : ℕ) → Contains xs v → Contains ys v) → ((v : ℕ) → Contains ys v → Contains xs v) → xs ≡ ys
ascending_one [] [] up vp into back = refl
ascending_one [] (y ∷ ys) up vp into back = absurd (Contains_nil y (back y (Contains_here y ys)))
ascending_one (x ∷ xs) [] up vp into back = absurd (Contains_nil x (into x (Contains_here x xs)))
ascending_one (x ∷ xs) (y ∷ ys) up vp into back =
    let low : x ≤ y = head_least x xs y up (back y (Contains_here y ys)) in
    let high : y ≤ x = head_least y ys x vp (into x (Contains_here x xs)) in
    let same : x ≡ y = omega arith in
    let rest : xs ≡ ys = ascending_one xs ys (AllPairs_tail (λ v w. v < w) x xs up) (AllPairs_tail (λ v w. v < w) y ys vp)
    (λ v h. elim (Contains_cases y v ys (into v (Contains_there x v xs h))) [
      | inl e ↦ absurd (head_once x xs up (subst (λ z. Contains xs z) (sym e ∙ sym same) h))
      | inr k ↦ k
    ])
    (λ v h. elim (Contains_cases x v xs (back v (Contains_there y v ys h))) [
      | inl e ↦ absurd (head_once y ys vp (subst (λ z. Contains ys z) (sym e ∙ same) h))
      | inr k ↦ k
    ]) in
    cc

-- the one ascending list of what holds of one number alone
pub only_one : (xs : List ℕ) (x : ℕ) → IsListOf xs (λ v. Contains [] v ⊎ (v ≡ x)) → xs ≡ x ∷ []
only_one xs x all =
    ascending_one xs (x ∷ []) all.ascending (λ i j d l m. absurd (omega arith))
    (λ v h. elim ((all.members v).0 h) [ inl none ↦ absurd (Contains_nil v none) | inr e ↦ subst (λ z. Contains (x ∷ []) z) (sym e) (Contains_here x []) ])
    (λ v h. (all.members v).1 (elim (Contains_cases x v [] h) [ inl e ↦ inr (sym e) | inr none ↦ absurd (Contains_nil v none) ]))
