-- Members of lists that are made from others.
use Rattle.std.proofs.Common.{◌≡◌, inl, inr, ℕ, Bool, true, false, not, ◌||◌, List, [], ◌∷◌, map, filter, Contains, refl, sym, subst}
use Rattle.std.specs.List.{flat_map, list_any}
use Rattle.std.proofs.lemmas.List.Elements.{Contains-append_left, Contains-append_right}
use Rattle.std.proofs.lemmas.List.Concat.{flat_map-cons}
use Rattle.gen_types.specs.Ends.{is_among}
use Rattle.gen_types.proofs.Among.{among_out, out_among}
use Rattle.gen_types.proofs.Lists.{Contains_here, Contains_there, Contains_cases, Contains_nil, bool_cases}

pub in_mapped : {X Y : Type 0} (f : X → Y) (xs : List X) (x : X) → Contains xs x → Contains (map f xs) (f x)
in_mapped f [] x h = absurd (Contains_nil x h)
in_mapped f (y ∷ xs) x h = elim (Contains_cases y x xs h) [
  | inl e ↦ subst (λ z. Contains (f y ∷ map f xs) (f z)) e (Contains_here (f y) (map f xs))
  | inr k ↦ Contains_there (f y) (f x) (map f xs) (in_mapped f xs x k)
]

pub in_flat : {X Y : Type 0} (f : X → List Y) (xs : List X) (x : X) (y : Y) → Contains xs x → Contains (f x) y → Contains (flat_map f xs) y
in_flat f [] x y h k = absurd (Contains_nil x h)
in_flat f (z ∷ xs) x y h k = rw flat_map-cons (elim (Contains_cases z x xs h) [
  | inl e ↦ Contains-append_left (f z) (flat_map f xs) y (subst (λ w. Contains (f w) y) (sym e) k)
  | inr t ↦ Contains-append_right (f z) (flat_map f xs) y (in_flat f xs x y t k)
])

pub in_filtered : {X : Type 0} (p : X → Bool) (xs : List X) (x : X) → Contains xs x → p x ≡ true → Contains (filter p xs) x
in_filtered p [] x h e = absurd (Contains_nil x h)
in_filtered p (y ∷ xs) x h e = elim (Contains_cases y x xs h) [
  | inl same ↦ let here : p y ≡ true = subst (λ w. p w ≡ true) (sym same) e in rw here (subst (λ w. Contains (y ∷ filter p xs) w) same (Contains_here y (filter p xs)))
  | inr t ↦ elim (bool_cases (p y)) [
    | inl here ↦ rw here (Contains_there y x (filter p xs) (in_filtered p xs x t e))
    | inr out ↦ rw out (in_filtered p xs x t e)
  ]
]

pub any_has : {X : Type 0} (p : X → Bool) (xs : List X) → list_any p xs ≡ true → (x : X) × Contains xs x × (p x ≡ true)
any_has p [] e = absurd cc
any_has p (x ∷ xs) e = elim (bool_cases (p x)) [
  | inl here ↦ (x, Contains_here x xs, here)
  | inr out ↦ let rest : list_any p xs ≡ true = rw out at e in let r = any_has p xs rest in (r.0, Contains_there x r.0 xs r.1, r.2)
]

or_true : (b : Bool) → (b || true) ≡ true
or_true true = refl
or_true false = refl

pub any_gives : {X : Type 0} (p : X → Bool) (xs : List X) (x : X) → Contains xs x → p x ≡ true → list_any p xs ≡ true
any_gives p [] x h e = absurd (Contains_nil x h)
any_gives p (y ∷ xs) x h e = elim (Contains_cases y x xs h) [
  | inl same ↦ let here : p y ≡ true = subst (λ w. p w ≡ true) (sym same) e in rw here refl
  | inr t ↦ rw (any_gives p xs x t e) (or_true (p y))
]

pub not_true : (b : Bool) → not b ≡ true → b ≡ false
not_true true e = absurd cc
not_true false e = refl

pub true_false : (b : Bool) → b ≡ true → b ≡ false → ⊥
true_false b p q = cc

-- the test whether a number is not in a list
pub among_not : (path : List ℕ) (g : ℕ) → not (is_among path g) ≡ true → Contains path g → ⊥
among_not path g e = among_out path g (not_true (is_among path g) e)

pub not_among : (path : List ℕ) (g : ℕ) → (Contains path g → ⊥) → not (is_among path g) ≡ true
not_among path g out = rw (out_among path g out) refl
