-- The test for equal identities tells whether all differ.
use Rattle.std.proofs.Common.{◌≡◌, ◌≢◌, ℕ, Bool, true, false, ◌||◌, List, [], ◌∷◌, Contains, AllPairs, refl, sym, ◌∙◌, arith, inl, inr}
use Rattle.std.specs.Bool.{nat_eq}
use Rattle.std.specs.Cmp.Lexicographic.{pointwise}
use Rattle.std.specs.List.{list_any}
use Rattle.std.proofs.lemmas.List.Elements.{All-contains}
use Rattle.std.proofs.lemmas.List.Kept.{AllPairs-cons}
use Rattle.std.proofs.lemmas.Slice.Eq.{bytes_eq-Decides}
use Rattle.gen_types.proofs.Lists.{bool_cases, Contains_here, Contains_there, Contains_cases, Contains_nil, All_of, AllPairs_head, AllPairs_tail}
use Rattle.gen_system.specs.Systems.{has_equal}

is_not : true ≡ false → ⊥
is_not e = cc

neither : (a b : Bool) → (a || b) ≡ false → (a ≡ false) × (b ≡ false)
neither true b e = absurd (is_not e)
neither false b e = (refl, e)

-- no member is the one that was looked for
none_same : (top : List ℕ) (tops : List (List ℕ)) → list_any (λ other. pointwise nat_eq other top) tops ≡ false → (other : List ℕ) → Contains tops other → top ≢ other
none_same top [] none other h = absurd (Contains_nil other h)
none_same top (x ∷ xs) none other h =
    let n = neither (pointwise nat_eq x top) (list_any (λ y. pointwise nat_eq y top) xs) none in
    elim (Contains_cases x other xs h) [
      | inl here ↦ λ same. is_not (sym ((bytes_eq-Decides x top).1 (here ∙ sym same)) ∙ n.0)
      | inr there ↦ none_same top xs n.1 other there
    ]

pub apart_told : (tops : List (List ℕ)) → has_equal tops ≡ false → AllPairs (λ a b. a ≢ b) tops
apart_told [] none = λ i j d l m. absurd (omega arith)
apart_told (top ∷ tops) none =
    let n = neither (list_any (λ other. pointwise nat_eq other top) tops) (has_equal tops) none in
    AllPairs-cons (λ a b. a ≢ b) top tops (All_of (λ b. top ≢ b) tops (none_same top tops n.0)) (apart_told tops n.1)

same_none : (top : List ℕ) (tops : List (List ℕ)) → ((other : List ℕ) → Contains tops other → top ≢ other) → list_any (λ other. pointwise nat_eq other top) tops ≡ false
same_none top [] differ = refl
same_none top (x ∷ xs) differ = elim (bool_cases (pointwise nat_eq x top)) [
  | inl same ↦ absurd (differ x (Contains_here x xs) (sym ((bytes_eq-Decides x top).0 same)))
  | inr other ↦ rw other (same_none top xs (λ y h. differ y (Contains_there x y xs h)))
]

pub apart_again : (tops : List (List ℕ)) → AllPairs (λ a b. a ≢ b) tops → has_equal tops ≡ false
apart_again [] apart = refl
apart_again (top ∷ tops) apart =
    let first = AllPairs_head (λ a b. a ≢ b) top tops apart in
    rw (same_none top tops (λ y h. All-contains (λ b. top ≢ b) tops y first h)) (apart_again tops (AllPairs_tail (λ a b. a ≢ b) top tops apart))
