-- A list that is cut at each of its separators, and parts that are joined by one.
use Rattle.std.proofs.Common.{◌≡◌, ℕ, ◌+◌, ◌/◌, ◌%◌, ◌<◌, Bool, true, false, not, eqb, List, [], ◌∷◌, ◌++◌, refl, ap, ◌∙◌, arith, inl, inr}
use Rattle.std.specs.List.{list_all, slice_split, join_with_byte, AllByRecursion}
use Rattle.std.specs.Fmt.{decimal}
use Rattle.std.proofs.lemmas.Bool.{cases_lt}
use Rattle.std.proofs.lemmas.Bool.Decides.{nat_tests}
use Rattle.std.proofs.lemmas.Fmt.{decimal_digit}
use Rattle.gen_types.proofs.Decimals.{both, two_digits, three_digits}

pub not_true : (b : Bool) → not b ≡ true → b ≡ false
not_true true e = absurd cc
not_true false e = refl

-- a list that is cut behind a front without the separator
pub cut_front : (p : ℕ → Bool) (f : List ℕ) (y : ℕ) (ys : List ℕ) → list_all (λ b. not (p b)) f ≡ true → p y ≡ true → slice_split p (f ++ y ∷ ys) ≡ f ∷ slice_split p ys
cut_front p [] y ys e h = rw h refl
cut_front p (x ∷ f) y ys e h =
    let a = both _ _ e in
    let none : p x ≡ false = not_true (p x) a.0 in
    rw (none, cut_front p f y ys a.1 h) refl

pub cut_none : (p : ℕ → Bool) (f : List ℕ) → list_all (λ b. not (p b)) f ≡ true → slice_split p f ≡ f ∷ []
cut_none p [] e = refl
cut_none p (x ∷ f) e =
    let a = both _ _ e in
    let none : p x ≡ false = not_true (p x) a.0 in
    rw (none, cut_none p f a.1) refl

pub all_append : (p : ℕ → Bool) (xs ys : List ℕ) → list_all p xs ≡ true → list_all p ys ≡ true → list_all p (xs ++ ys) ≡ true
all_append p [] ys e h = h
all_append p (x ∷ xs) ys e h = let a = both (p x) (list_all p xs) e in rw (a.0, all_append p xs ys a.1 h) refl

-- the byte stands nowhere in the list
abbrev pub IsFree : ℕ → List ℕ → Type 0
IsFree c f = list_all (λ b. not (eqb b c)) f ≡ true

itself : (c : ℕ) → eqb c c ≡ true
itself c = grind (arith, nat_tests)

-- parts without the separator are given back by what they join to
pub cut_joined : (c : ℕ) (f : List ℕ) (fs : List (List ℕ)) → IsFree c f → AllByRecursion (IsFree c) fs → slice_split (λ b. eqb b c) (join_with_byte c (f ∷ fs)) ≡ f ∷ fs
cut_joined c f [] h hs = cut_none (λ b. eqb b c) f h
cut_joined c f (g ∷ fs) h hs = cut_front (λ b. eqb b c) f c (join_with_byte c (g ∷ fs)) h (itself c) ∙ ap (λ (r : List (List ℕ)). f ∷ r) (cut_joined c g fs hs.0 hs.1)

-- what is joined has a byte nowhere that stands in no part and isn't the separator
pub joined_free : (c d : ℕ) (fs : List (List ℕ)) → eqb d c ≡ false → AllByRecursion (IsFree c) fs → IsFree c (join_with_byte d fs)
joined_free c d [] other h = refl
joined_free c d (f ∷ []) other h = h.0
joined_free c d (f ∷ g ∷ fs) other h = all_append (λ b. not (eqb b c)) f (d ∷ join_with_byte d (g ∷ fs)) h.0 (rw other (joined_free c d (g ∷ fs) other h.1))

-- a byte below the digits stands nowhere in a number
pub decimal_free : (c n : ℕ) → c < 48 → n < 256 → IsFree c (decimal n)
decimal_free c n below lt =
    elim (cases_lt n 10) [
      | inl small ↦ rw (decimal_digit n small, other (48 + n) (omega arith)) refl
      | inr large ↦ (elim (cases_lt n 100) [
        | inl small ↦ rw (two_digits n large small, other (48 + n / 10) (omega arith), other (48 + n % 10) (omega arith)) refl
        | inr larger ↦ rw (three_digits n larger (omega arith), other (48 + (n / 10) / 10) (omega arith), other (48 + (n / 10) % 10) (omega arith), other (48 + n % 10) (omega arith)) refl
      ])
    ]
  where
    other : (b : ℕ) → c < b → eqb b c ≡ false
    other b lt' = grind (arith, nat_tests, lt')
