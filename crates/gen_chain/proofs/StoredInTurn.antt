-- Answers that are kept one after another.
use Rattle.std.proofs.Common.{arith, ◌≡◌, ◌↔◌, ◌<◌, ◌+◌, ◌⊎◌, inl, inr, IsTrue, Bool, false, ltb, ℕ, List, length, map, slice_index_or, sym, ap, subst, ◌∙◌}
use Rattle.std.specs.Prelude.{IsSome}
use Rattle.std.proofs.lemmas.Bool.{ltb-true, ltb-false}
use Rattle.std.proofs.lemmas.List.{get_or-map}
use Rattle.gen_types.proofs.Lists.{bool_cases}
use Rattle.gen_net.specs.Header.{RunHeader}
use Rattle.gen_chain.specs.Signings.{IsSigned, triple_of}
use Rattle.gen_chain.specs.Store.{Store, Triple, answer_of, KeepsAll}
use Rattle.gen_chain.specs.declared.signings.Signing.{Signing}
use Rattle.gen_chain.proofs.StoredSoFar.{some_stays}

-- the answer to one of them is right
pub right_at : (h : RunHeader) (xs : List Signing) (answers : List Bool) (k : ℕ) (x : Signing) → k < length xs
    → x ≡ slice_index_or xs k x
    → ((j : ℕ) → j < length xs → (other : Triple) → IsTrue (slice_index_or answers j false) ↔ IsSigned h (slice_index_or (map triple_of xs) j other))
    → IsTrue (slice_index_or answers k false) ↔ IsSigned h (triple_of x)
right_at h xs answers k x inside is all =
    subst (λ t. IsTrue (slice_index_or answers k false) ↔ IsSigned h t) (get_or-map triple_of xs k x (triple_of x) inside ∙ sym (ap triple_of is))
    (all k inside (triple_of x))

-- the answers to the first k are kept
abbrev pub KeepsFirst : Store → List Signing → ℕ → Type 0
KeepsFirst store xs k = (j : ℕ) → j < k → (other : Triple) → IsSome (answer_of store (slice_index_or (map triple_of xs) j other))

pub before_or_at : (j k : ℕ) → j < k + 1 → (j < k) ⊎ (j ≡ k)
before_or_at j k below = elim (bool_cases (ltb j k)) [
  | inl t ↦ inl (ltb-true j k t)
  | inr f ↦ let no = ltb-false j k f in inr (omega (arith, below, no))
]

pub kept_more : (old new : Store) (xs : List Signing) (k : ℕ) (x : Signing) → k < length xs → x ≡ slice_index_or xs k x → KeepsAll old new
    → IsSome (answer_of new (triple_of x)) → KeepsFirst old xs k → KeepsFirst new xs (k + 1)
kept_more old new xs k x inside is grows kept so_far j below other = elim (before_or_at j k below) [
  | inl before ↦ some_stays old new (slice_index_or (map triple_of xs) j other) grows (so_far j before other)
  | inr same ↦
      let here : slice_index_or (map triple_of xs) j other ≡ triple_of x = ap (λ i. slice_index_or (map triple_of xs) i other) same ∙ get_or-map triple_of xs k x other inside ∙ sym (ap triple_of is) in
      subst (λ t. IsSome (answer_of new t)) (sym here) kept
]
