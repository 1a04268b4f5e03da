-- Lemmas: members of lists and of filtered ranges.
use Rattle.std.specs.Prelude.{ℕ, ◌≡◌, ◌+◌, ◌<◌, ◌≤◌, ◌⊎◌, Bool, true, false, cond, List, [], ◌∷◌, ◌++◌, Contains, AllPairs, filter, refl}
use Rattle.std.specs.List.{range_with_len}
use Rattle.std.proofs.Common.{sym, ◌∙◌, ap, subst, inl, inr, arith, zero, suc, zero-add, add-zero}
use Rattle.std.proofs.lemmas.Bool.{cases_eq}
use Rattle.std.proofs.lemmas.List.Elements.{filter-append}
use Rattle.std.proofs.lemmas.List.Kept.{AllPairs-filter}
use Rattle.std.proofs.lemmas.List.FromFn.{get_or-range_with_len, length-range_with_len}

pub Contains_here : {X : Type 0} (x : X) (xs : List X) → Contains (x ∷ xs) x
Contains_here x xs = (0, omega arith, refl)

pub Contains_there : {X : Type 0} (x y : X) (xs : List X) → Contains xs y → Contains (x ∷ xs) y
Contains_there x y xs h = (suc h.0, omega (arith, h.1), h.2)

pub Contains_cases : {X : Type 0} (x y : X) (xs : List X) → Contains (x ∷ xs) y → (x ≡ y) ⊎ Contains xs y
Contains_cases x y xs (zero, l, e) = inl e
Contains_cases x y xs (suc k, l, e) = inr (k, omega (arith, l), e)

pub Contains_nil : {X : Type 0} (y : X) → Contains [] y → ⊥
Contains_nil y h = absurd (omega (arith, h.1))

pub bool_cases : (b : Bool) → (b ≡ true) ⊎ (b ≡ false)
bool_cases true = inl refl
bool_cases false = inr refl

-- each member of a filtered range is in the range and passes the test
pub filter_range_has : (P : ℕ → Bool) (a n v : ℕ) → Contains (filter P (range_with_len a n)) v
    → (a ≤ v) × (v < a + n) × (P v ≡ true)
filter_range_has P a zero v h = absurd (Contains_nil v h)
filter_range_has P a (suc n) v h = elim (bool_cases (P a)) [
  | inl e ↦
      let longer : Contains (a ∷ filter P (range_with_len (a + 1) n)) v = rw e at h in
      elim (Contains_cases a v (filter P (range_with_len (a + 1) n)) longer) [
        | inl here ↦ (omega arith, omega arith, subst (λ w. P w ≡ true) here e)
        | inr there ↦ let r = filter_range_has P (a + 1) n v there
            in (omega (arith, r.0), omega (arith, r.1), r.2)
      ]
  | inr e ↦
      let shorter : Contains (filter P (range_with_len (a + 1) n)) v = rw e at h in
      let r = filter_range_has P (a + 1) n v shorter in (omega (arith, r.0), omega (arith, r.1), r.2)
]

pub filter_range_gives : (P : ℕ → Bool) (a n v : ℕ) → a ≤ v → v < a + n → P v ≡ true
    → Contains (filter P (range_with_len a n)) v
filter_range_gives P a zero v low high holds = absurd (omega arith)
filter_range_gives P a (suc n) v low high holds = elim (cases_eq a v) [
  | inl e ↦
      let here : P a ≡ true = subst (λ w. P w ≡ true) (sym e) holds in
      rw here (subst (λ w. Contains (a ∷ filter P (range_with_len (a + 1) n)) w) e
      (Contains_here a (filter P (range_with_len (a + 1) n))))
  | inr ne ↦
      let r : Contains (filter P (range_with_len (a + 1) n)) v = filter_range_gives P (a + 1) n v
      (omega arith) (omega arith) holds in
      elim (bool_cases (P a)) [
        | inl e ↦ rw e (Contains_there a v (filter P (range_with_len (a + 1) n)) r)
        | inr e ↦ rw e r
      ]
]

pub range_ascending : (a n : ℕ) → AllPairs (λ v w. v < w) (range_with_len a n)
range_ascending a n i j d l m =
    let long : j < n = rw length-range_with_len at m in
    rw (get_or-range_with_len a n i d (omega arith), get_or-range_with_len a n j d long) (omega arith)

pub filter_range_ascending : (P : ℕ → Bool) (a n : ℕ)
    → AllPairs (λ v w. v < w) (filter P (range_with_len a n))
filter_range_ascending P a n = AllPairs-filter (λ v w. v < w) P (range_with_len a n) (range_ascending a n)

pub range_more : (a k : ℕ) → range_with_len a (k + 1) ≡ range_with_len a k ++ (a + k) ∷ []
range_more a zero = rw add-zero refl
range_more a (suc k) =
    let longer : suc k + 1 ≡ suc (k + 1) = omega arith in
    let last : (a + 1) + k ≡ a + suc k = omega arith in
    ap (range_with_len a) longer ∙ ap (λ r. a ∷ r) (range_more (a + 1) k)
    ∙ ap (λ x. a ∷ (range_with_len (a + 1) k ++ x ∷ [])) last

-- a range from 0 with one number more, filtered: the filtered range, and then this number if it passes the
-- test
pub filter_more : (P : ℕ → Bool) (k : ℕ) → filter P (range_with_len 0 (k + 1)) ≡ filter P (range_with_len 0 k)
    ++ cond (P k) (k ∷ []) []
filter_more P k = rw (range_more 0 k, zero-add) (filter-append P (range_with_len 0 k) (k ∷ []))
