-- Lists that are made of the numbers below a bound.
use Rattle.std.proofs.Common.{◌≡◌, ℕ, ◌+◌, zero, suc, List, [], ◌∷◌, ◌++◌, map, arith, ap, ◌∙◌, sym, add-one}
use Rattle.std.specs.List.{range_with_len}
use Rattle.std.proofs.lemmas.List.{map-append}
use Rattle.std.proofs.lemmas.Grind.{common_steps}

-- one number more
one_more : (a n j : ℕ) → a + n ≡ j → range_with_len a (suc n) ≡ range_with_len a n ++ j ∷ []
one_more a zero j e = grind (arith, common_steps)
one_more a (suc n) j e = let next : (a + 1) + n ≡ j = omega arith in ap (λ xs. a ∷ xs) (one_more (a + 1) n j next)

-- what is made of one number more is pushed behind what was made of those before
pub pushed : {A B : Type 0} (seen : A → B) (f : ℕ → B) (n : ℕ) (old new : List A) (x : A)
    → map seen old ≡ map f (range_with_len 0 n) → new ≡ old ++ x ∷ [] → seen x ≡ f n
    → map seen new ≡ map f (range_with_len 0 (n + 1))
pushed seen f n old new x before items here =
    ap (λ xs. map seen xs) items ∙ map-append seen old (x ∷ []) ∙ ap (λ ys. ys ++ seen x ∷ []) before
    ∙ ap (λ y. map f (range_with_len 0 n) ++ y ∷ []) here ∙ sym (map-append f (range_with_len 0 n) (n ∷ []))
    ∙ ap (λ xs. map f xs) (sym (one_more 0 n n (omega arith)) ∙ ap (λ k. range_with_len 0 k) (sym (add-one n)))
