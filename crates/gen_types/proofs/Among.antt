-- The test whether a number is a member of a list says exactly whether it is.
use Rattle.std.proofs.Common.{◌≡◌, ◌⊎◌, ℕ, Bool, true, false, ◌||◌, eqb, List, [], ◌∷◌, Contains, refl, subst, inl, inr, eq-eqb}
use Rattle.std.proofs.lemmas.Bool.{eqb-true}
use Rattle.gen_types.specs.Ends.{is_among}
use Rattle.gen_types.specs.Members.{Contains_here, Contains_there, Contains_cases, Contains_nil, bool_cases}

or_right : (b : Bool) → (b || true) ≡ true
or_right true = refl
or_right false = refl

-- whether the test holds of the first number, or of a later one
either : (b c : Bool) → (b || c) ≡ true → (b ≡ true) ⊎ (c ≡ true)
either true c e = inl refl
either false c e = inr e

pub among_in : (xs : List ℕ) (x : ℕ) → is_among xs x ≡ true → Contains xs x
among_in [] x e = absurd cc
among_in (y ∷ ys) x e = elim (either (eqb y x) (is_among ys x) e) [
  | inl here ↦ subst (λ z. Contains (y ∷ ys) z) (eqb-true y x here) (Contains_here y ys)
  | inr there ↦ Contains_there y x ys (among_in ys x there)
]

pub in_among : (xs : List ℕ) (x : ℕ) → Contains xs x → is_among xs x ≡ true
in_among [] x h = absurd (Contains_nil x h)
in_among (y ∷ ys) x h = elim (Contains_cases y x ys h) [
  | inl e ↦ let same : eqb y x ≡ true = eq-eqb y x e in rw same refl
  | inr there ↦ rw (in_among ys x there) (or_right (eqb y x))
]

pub among_out : (xs : List ℕ) (x : ℕ) → is_among xs x ≡ false → Contains xs x → ⊥
among_out xs x e h = let t = in_among xs x h in absurd cc

pub out_among : (xs : List ℕ) (x : ℕ) → (Contains xs x → ⊥) → is_among xs x ≡ false
out_among xs x none = elim (bool_cases (is_among xs x)) [
  | inl e ↦ absurd (none (among_in xs x e))
  | inr e ↦ e
]
