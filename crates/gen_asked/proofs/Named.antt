-- The set of the generals that texts name, general by general.
use Rattle.std.proofs.Common.{◌≡◌, ℕ, ◌+◌, ◌<◌, ◌⊎◌, inl, inr, Bool, true, false, cond, List, [], ◌∷◌, ◌++◌, filter, map, ◌||◌, Bor, Contains, refl, sym, ◌∙◌, ap, subst, arith}
use Rattle.std.specs.List.{list_any, range_with_len}
use Rattle.std.proofs.lemmas.Bool.{cases_eq}
use Rattle.std.proofs.lemmas.List.{append-nil}
use Rattle.gen_types.specs.Ascending.{IsListOf}
use Rattle.gen_types.specs.Members.{filter_more, filter_range_ascending, filter_range_gives, filter_range_has}
use Rattle.gen_types.proofs.Lists.{ascending_one}

-- whether some text passes, of texts and of what stands for them
pub any_mapped : (p : List ℕ → Bool) (texts : List (Bor (List ℕ))) → list_any (λ (x : Bor (List ℕ)). p x.now) texts ≡ list_any p (map (λ (x : Bor (List ℕ)). x.now) texts)
any_mapped p [] = refl
any_mapped p (t ∷ texts) = ap (λ b. p t.now || b) (any_mapped p texts)

-- a general that is named is put in
pub put_in : (P : ℕ → Bool) (k : ℕ) (old new : List ℕ) → old ≡ filter P (range_with_len 0 k) → P k ≡ true
    → IsListOf new (λ v. Contains old v ⊎ (v ≡ k)) → new ≡ filter P (range_with_len 0 (k + 1))
put_in P k old new is here all =
    ascending_one new (filter P (range_with_len 0 (k + 1))) all.ascending (filter_range_ascending P 0 (k + 1))
    (λ v h. elim ((all.members v).0 h) [
      | inl before ↦
          let r = filter_range_has P 0 k v (subst (λ xs. Contains xs v) is before) in
          filter_range_gives P 0 (k + 1) v (omega arith) (omega (arith, r.1)) r.2
      | inr e ↦ filter_range_gives P 0 (k + 1) v (omega arith) (omega (arith, e)) (subst (λ w. P w ≡ true) (sym e) here)
    ])
    (λ v h.
    let r = filter_range_has P 0 (k + 1) v h in
    elim (cases_eq v k) [
      | inl e ↦ (all.members v).1 (inr e)
      | inr ne ↦ (all.members v).1 (inl (subst (λ xs. Contains xs v) (sym is) (filter_range_gives P 0 k v (omega arith) (omega (arith, r.1, ne)) r.2)))
    ])

-- one that is not is left out
pub left_out : (P : ℕ → Bool) (k : ℕ) (old : List ℕ) → old ≡ filter P (range_with_len 0 k) → P k ≡ false → old ≡ filter P (range_with_len 0 (k + 1))
left_out P k old is e =
    let none : filter P (range_with_len 0 k) ++ cond (P k) (k ∷ []) [] ≡ filter P (range_with_len 0 k) = ap (λ b. filter P (range_with_len 0 k) ++ cond b (k ∷ []) []) e ∙ append-nil (filter P (range_with_len 0 k)) in
    is ∙ sym (filter_more P k ∙ none)
