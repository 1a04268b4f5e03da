-- Lists of numbers, and what is made of each of them.
use Rattle.std.proofs.Common.{◌≡◌, ℕ, ◌+◌, zero, suc, List, [], ◌∷◌, ◌++◌, arith, ap, ◌∙◌, sym, add-one, append_assoc}
use Rattle.std.specs.List.{flat_map, range_with_len}
use Rattle.std.proofs.lemmas.List.{flat_map_more}
use Rattle.std.proofs.lemmas.Grind.{common_steps}

-- one number more
range_one_more : (a n j : ℕ) → a + n ≡ j → range_with_len a (suc n) ≡ range_with_len a n ++ j ∷ []
range_one_more a zero j e = grind (arith, common_steps)
range_one_more a (suc n) j e = let e' : (a + 1) + n ≡ j = omega arith in ap (λ xs. a ∷ xs) (range_one_more (a + 1) n j e')

-- what is made of one number more stands behind what was made of those before
pub one_more : {A : Type 0} (f : ℕ → List A) (a n j : ℕ) (old mid new : List A) → a + n ≡ j
    → mid ≡ old ++ flat_map f (range_with_len a n) → new ≡ mid ++ f j
    → new ≡ old ++ flat_map f (range_with_len a (n + 1))
one_more f a n j old mid new e before here =
    here ∙ ap (λ xs. xs ++ f j) before ∙ flat_map_more f old (range_with_len a n) j
    ∙ ap (λ xs. old ++ flat_map f xs) (sym (range_one_more a n j e) ∙ ap (λ k. range_with_len a k) (sym (add-one n)))
