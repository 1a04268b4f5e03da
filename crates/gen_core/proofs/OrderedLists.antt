-- Lists in order, and the order of places in a log.
use Rattle.std.proofs.Common.{◌≡◌, ℕ, zero, suc, ◌<◌, ◌⊎◌, ◌↔◌, inl, inr, List, [], ◌∷◌, ◌++◌, get_or, Contains, AllPairs, refl, sym, ap, ◌∙◌, subst, arith}
use Rattle.std.specs.List.{flat_map}
use Rattle.std.proofs.lemmas.List.Concat.{flat_map-cons}
use Rattle.std.proofs.lemmas.List.Elements.{Contains-append_left, Contains-append_right, Contains-get_or}
use Rattle.std.proofs.lemmas.Bool.{cases_order}
use Rattle.gen_types.specs.Ascending.{IsListOf}
use Rattle.gen_net.specs.Log.{Precedes}
pub use Rattle.gen_types.proofs.Lists.{Contains_flat_mapped}
use Rattle.gen_types.proofs.Lists.{split, Contains_here, Contains_there, Contains_cases, Contains_nil}

pub in_flat_map : {X Y : Type 0} (f : X → List Y) (xs : List X) (x : X) (y : Y) → Contains xs x → Contains (f x) y → Contains (flat_map f xs) y
in_flat_map f [] x y h k = absurd (Contains_nil x h)
in_flat_map f (z ∷ xs) x y h k = rw flat_map-cons (elim (Contains_cases z x xs h) [
  | inl e ↦ Contains-append_left (f z) (flat_map f xs) y (subst (λ w. Contains (f w) y) (sym e) k)
  | inr later ↦ Contains-append_right (f z) (flat_map f xs) y (in_flat_map f xs x y later k)
])

-- a list of one has that one alone
pub only : {X : Type 0} (x y : X) → Contains (x ∷ []) y → x ≡ y
only x y h = elim (Contains_cases x y [] h) [ inl e ↦ e | inr none ↦ absurd (Contains_nil y none) ]

pub AllPairs-head : {X : Type 0} (R : X → X → Type 0) (x : X) (xs : List X) (y : X) → AllPairs R (x ∷ xs) → Contains xs y → R x y
AllPairs-head R x xs y all h = subst (λ z. R x z) h.2 (all 0 (suc h.0) y (omega arith) (omega (arith, h.1)))

pub AllPairs-tail : {X : Type 0} (R : X → X → Type 0) (x : X) (xs : List X) → AllPairs R (x ∷ xs) → AllPairs R xs
AllPairs-tail R x xs all i j d l m = all (suc i) (suc j) d (omega arith) (omega arith)

pub same_members : {X : Type 0} (R : X → X → Type 0) → ((a b : X) → R a b → R b a → ⊥) → (xs ys : List X) → AllPairs R xs → AllPairs R ys → ((x : X) → Contains xs x ↔ Contains ys x) → xs ≡ ys
same_members R apart [] [] all_x all_y same = refl
same_members R apart [] (y ∷ ys) all_x all_y same = absurd (Contains_nil y ((same y).1 (Contains_here y ys)))
same_members R apart (x ∷ xs) [] all_x all_y same = absurd (Contains_nil x ((same x).0 (Contains_here x xs)))
same_members {X} R apart (x ∷ xs) (y ∷ ys) all_x all_y same =
    let heads : x ≡ y = elim (Contains_cases y x ys ((same x).0 (Contains_here x xs))) [
      | inl e ↦ sym e
      | inr in_ys ↦ elim (Contains_cases x y xs ((same y).1 (Contains_here y ys))) [
        | inl e ↦ e
        | inr in_xs ↦ absurd (apart x y (AllPairs-head R x xs y all_x in_xs) (AllPairs-head R y ys x all_y in_ys))
      ]
    ] in
    let there : (z : X) → Contains xs z → Contains ys z = λ z h. elim (Contains_cases y z ys ((same z).0 (Contains_there x z xs h))) [
      | inl e ↦ let r : R x z = AllPairs-head R x xs z all_x h in let e' : x ≡ z = heads ∙ e in absurd (apart x x (subst (λ w. R x w) (sym e') r) (subst (λ w. R x w) (sym e') r))
      | inr k ↦ k
    ] in
    let back : (z : X) → Contains ys z → Contains xs z = λ z h. elim (Contains_cases x z xs ((same z).1 (Contains_there y z ys h))) [
      | inl e ↦ let r : R y z = AllPairs-head R y ys z all_y h in let e' : y ≡ z = sym heads ∙ e in absurd (apart y y (subst (λ w. R y w) (sym e') r) (subst (λ w. R y w) (sym e') r))
      | inr k ↦ k
    ] in
    let tails : xs ≡ ys = same_members R apart xs ys (AllPairs-tail R x xs all_x) (AllPairs-tail R y ys all_y) (λ z. (there z, back z)) in
    cc

pub Precedes-apart : (xs ys : List ℕ) → Precedes xs ys → Precedes ys xs → ⊥
Precedes-apart [] [] h k = h
Precedes-apart [] (y ∷ ys) h k = k
Precedes-apart (x ∷ xs) [] h k = h
Precedes-apart (x ∷ xs) (y ∷ ys) (inl h) (inl k) = omega arith
Precedes-apart (x ∷ xs) (y ∷ ys) (inl h) (inr k) = omega (arith, k.0)
Precedes-apart (x ∷ xs) (y ∷ ys) (inr h) (inl k) = omega (arith, h.0)
Precedes-apart (x ∷ xs) (y ∷ ys) (inr h) (inr k) = Precedes-apart xs ys h.1 k.1

-- two lists of one set are the same list
pub one_list : (P : ℕ → Type 0) (xs ys : List ℕ) → IsListOf xs P → IsListOf ys P → xs ≡ ys
one_list P xs ys x y = same_members (λ a b. a < b) (λ a b h k. omega arith) xs ys x.ascending y.ascending (λ v. ((λ h. (y.members v).1 ((x.members v).0 h)), (λ h. (x.members v).1 ((y.members v).0 h))))

pub list_of_same : (P Q : ℕ → Type 0) → ((v : ℕ) → P v ↔ Q v) → (xs : List ℕ) → IsListOf xs P → IsListOf xs Q
list_of_same P Q same xs x = record { ascending = x.ascending; members = λ v. ((λ h. (same v).0 ((x.members v).0 h)), (λ q. (x.members v).1 ((same v).1 q))) }

pub list_of_one : (n : ℕ) → IsListOf (n ∷ []) (λ v. v ≡ n)
list_of_one n = record {
  ascending = λ i j d l m. absurd (omega arith);
  members = λ v. (
    (λ h. elim (Contains_cases n v [] h) [ inl e ↦ sym e | inr none ↦ absurd (Contains_nil v none) ]),
    (λ e. subst (λ w. Contains (n ∷ []) w) (sym e) (Contains_here n [])),
  );
}

pub AllPairs-cons : {X : Type 0} (R : X → X → Type 0) (x : X) (xs : List X) → ((y : X) → Contains xs y → R x y) → AllPairs R xs → AllPairs R (x ∷ xs)
AllPairs-cons R x xs first all zero zero d l m = absurd (omega arith)
AllPairs-cons R x xs first all zero (suc j) d l m = first (get_or xs j d) (Contains-get_or xs j d (omega arith))
AllPairs-cons R x xs first all (suc i) zero d l m = absurd (omega arith)
AllPairs-cons R x xs first all (suc i) (suc j) d l m = all i j d (omega arith) (omega arith)

pub Precedes-trans : (xs ys zs : List ℕ) → Precedes xs ys → Precedes ys zs → Precedes xs zs
Precedes-trans [] [] zs h k = absurd h
Precedes-trans [] (y ∷ ys) [] h k = absurd k
Precedes-trans [] (y ∷ ys) (z ∷ zs) h k = tt
Precedes-trans (x ∷ xs) [] zs h k = absurd h
Precedes-trans (x ∷ xs) (y ∷ ys) [] h k = absurd k
Precedes-trans (x ∷ xs) (y ∷ ys) (z ∷ zs) (inl h) (inl k) = inl (omega arith)
Precedes-trans (x ∷ xs) (y ∷ ys) (z ∷ zs) (inl h) (inr k) = inl (omega (arith, k.0))
Precedes-trans (x ∷ xs) (y ∷ ys) (z ∷ zs) (inr h) (inl k) = inl (omega (arith, h.0))
Precedes-trans (x ∷ xs) (y ∷ ys) (z ∷ zs) (inr h) (inr k) = inr (h.0 ∙ k.0, Precedes-trans xs ys zs h.1 k.1)

pub Precedes-total : (xs ys : List ℕ) → (xs ≡ ys) ⊎ (Precedes xs ys ⊎ Precedes ys xs)
Precedes-total [] [] = inl refl
Precedes-total [] (y ∷ ys) = inr (inl tt)
Precedes-total (x ∷ xs) [] = inr (inr tt)
Precedes-total (x ∷ xs) (y ∷ ys) = elim (cases_order x y) [
  | inr (inl l) ↦ inr (inl (inl l))
  | inr (inr l) ↦ inr (inr (inl l))
  | inl e ↦ elim (Precedes-total xs ys) [
    | inl e' ↦ inl (cc)
    | inr (inl h) ↦ inr (inl (inr (e, h)))
    | inr (inr h) ↦ inr (inr (inr (sym e, h)))
  ]
]

pub pairs_from_splits : {X : Type 0} (R : X → X → Type 0) (xs : List X) → ((before after : List X) (e : X) → xs ≡ before ++ e ∷ after → (x : X) → Contains before x → R x e) → AllPairs R xs
pairs_from_splits R [] at = λ i j d l m. absurd (omega arith)
pairs_from_splits R (x ∷ xs) at = AllPairs-cons R x xs
    (λ y h. let s = split xs y h in at (x ∷ s.0) s.1 y (ap (λ p. x ∷ p) s.2) x (Contains_here x s.0))
    (pairs_from_splits R xs (λ before after e q y h. at (x ∷ before) after e (ap (λ p. x ∷ p) q) y (Contains_there x y before h)))

pub AllPairs-total : {X : Type 0} (R : X → X → Type 0) (xs : List X) (a b : X) → AllPairs R xs → Contains xs a → Contains xs b → (a ≡ b) ⊎ (R a b ⊎ R b a)
AllPairs-total R [] a b all h k = absurd (Contains_nil a h)
AllPairs-total R (x ∷ xs) a b all h k = elim (Contains_cases x a xs h) [
  | inl ea ↦ elim (Contains_cases x b xs k) [
    | inl eb ↦ inl (sym ea ∙ eb)
    | inr kb ↦ inr (inl (subst (λ w. R w b) ea (AllPairs-head R x xs b all kb)))
  ]
  | inr ka ↦ elim (Contains_cases x b xs k) [
    | inl eb ↦ inr (inr (subst (λ w. R w a) eb (AllPairs-head R x xs a all ka)))
    | inr kb ↦ AllPairs-total R xs a b (AllPairs-tail R x xs all) ka kb
  ]
]

-- a list in order begins another where it has all of that one's members up to its own last
pub prefix_from : {X : Type 0} (R : X → X → Type 0) → ((a b : X) → R a b → R b a → ⊥) → (xs ys : List X) → AllPairs R xs → AllPairs R ys → ((x : X) → Contains xs x → Contains ys x) → ((x y : X) → Contains xs x → Contains ys y → R y x → Contains xs y) → (rest : List X) × (ys ≡ xs ++ rest)
prefix_from R apart [] ys all_x all_y inside down = (ys, refl)
prefix_from R apart (x ∷ xs) [] all_x all_y inside down = absurd (Contains_nil x (inside x (Contains_here x xs)))
prefix_from {X} R apart (x ∷ xs) (y ∷ ys) all_x all_y inside down =
    let heads : x ≡ y = elim (Contains_cases y x ys (inside x (Contains_here x xs))) [
      | inl e ↦ sym e
      | inr in_ys ↦
          let r : R y x = AllPairs-head R y ys x all_y in_ys in
          elim (Contains_cases x y xs (down x y (Contains_here x xs) (Contains_here y ys) r)) [
            | inl e ↦ e
            | inr in_xs ↦ absurd (apart x y (AllPairs-head R x xs y all_x in_xs) r)
          ]
    ] in
    let there : (z : X) → Contains xs z → Contains ys z = λ z h. elim (Contains_cases y z ys (inside z (Contains_there x z xs h))) [
      | inl e ↦ let r : R x z = AllPairs-head R x xs z all_x h in let e' : x ≡ z = heads ∙ e in let s : R x x = subst (λ w. R x w) (sym e') r in absurd (apart x x s s)
      | inr k ↦ k
    ] in
    let lower : (z w : X) → Contains xs z → Contains ys w → R w z → Contains xs w = λ z w h k r. elim (Contains_cases x w xs (down z w (Contains_there x z xs h) (Contains_there y w ys k) r)) [
      | inl e ↦ let s : R y w = AllPairs-head R y ys w all_y k in let e' : y ≡ w = sym heads ∙ e in let s' : R y y = subst (λ u. R y u) (sym e') s in absurd (apart y y s' s')
      | inr i ↦ i
    ] in
    let t = prefix_from R apart xs ys (AllPairs-tail R x xs all_x) (AllPairs-tail R y ys all_y) there lower in
    let q : ys ≡ xs ++ t.0 = t.1 in
    (t.0, cc)
