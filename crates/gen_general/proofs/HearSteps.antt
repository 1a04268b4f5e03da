-- Looking through what was heard, one chain after another.
use Rattle.std.proofs.Common.{◌≡◌, ◌&&◌, ℕ, Bool, true, false, List, [], ◌∷◌, refl, sym, subst, ◌∙◌, eqb, Some, None, inl, inr, length, Contains}
use Rattle.std.proofs.lemmas.Bool.{eqb-true}
use Rattle.gen_types.proofs.Lists.{Contains_here, Contains_there, bool_cases}
use Rattle.gen_chain.specs.Chain.{signed_path}
use Rattle.gen_scenario.specs.declared.heard.Heard.{Heard}
use Rattle.gen_scenario.specs.Heard.{first_of, heard_from}

pub first_here : (order : ℕ) (xs others : List Heard) (x : Heard) → xs ≡ x ∷ others → eqb x.chain.order order ≡ true → first_of order xs ≡ Some x
unfolding first_of
first_here order xs others x e here = rw (e, here) refl

pub first_later : (order : ℕ) (xs others : List Heard) (x : Heard) → xs ≡ x ∷ others → eqb x.chain.order order ≡ false → first_of order xs ≡ first_of order others
unfolding first_of
first_later order xs others x e other = rw (e, other) refl

pub first_nowhere : (order : ℕ) (xs : List Heard) → xs ≡ [] → first_of order xs ≡ None
unfolding first_of
first_nowhere order xs e = rw e refl

abbrev pub has_come : ℕ → ℕ → ℕ → Heard → Bool
has_come round from order x =
    eqb x.from from && (eqb x.chain.order order && eqb (length (signed_path x.chain.signers)) round)

pub found_here : (round from order : ℕ) (xs others : List Heard) (x : Heard) → xs ≡ x ∷ others → has_come round from order x ≡ true → heard_from round from order xs ≡ Some x
unfolding heard_from
found_here round from order xs others x e here = rw (e, here) refl

pub found_later : (round from order : ℕ) (xs others : List Heard) (x : Heard) → xs ≡ x ∷ others → has_come round from order x ≡ false → heard_from round from order xs ≡ heard_from round from order others
unfolding heard_from
found_later round from order xs others x e other = rw (e, other) refl

pub found_nowhere : (round from order : ℕ) (xs : List Heard) → xs ≡ [] → heard_from round from order xs ≡ None
unfolding heard_from
found_nowhere round from order xs e = rw e refl

-- where one of the three differs, it is another chain
pub came_not : (round from order : ℕ) (x : Heard) → (eqb x.from from ≡ true → eqb x.chain.order order ≡ true → length (signed_path x.chain.signers) ≡ round → ⊥) → has_come round from order x ≡ false
came_not round from order x differs = elim (bool_cases (eqb x.from from)) [
  | inr other ↦ rw other refl
  | inl same ↦ elim (bool_cases (eqb x.chain.order order)) [
    | inr other ↦ rw (same, other) refl
    | inl alike ↦ elim (bool_cases (eqb (length (signed_path x.chain.signers)) round)) [
      | inr other ↦ rw (same, alike, other) refl
      | inl long ↦ absurd (differs same alike (eqb-true _ _ long))
    ]
  ]
]

-- what is found stands there
pub found_stands : (round from order : ℕ) (xs : List Heard) (x : Heard) → heard_from round from order xs ≡ Some x → Contains xs x
unfolding heard_from
found_stands round from order [] x e = absurd cc
found_stands round from order (y ∷ xs) x e = elim (bool_cases (has_come round from order y)) [
  | inl here ↦
      let some : Some y ≡ Some x = sym (rw here refl) ∙ e in
      let same : y ≡ x = cc in
      subst (λ z. Contains (y ∷ xs) z) same (Contains_here y xs)
  | inr later ↦
      let there : heard_from round from order xs ≡ Some x = rw later at e in
      Contains_there y x xs (found_stands round from order xs x there)
]
