-- What is appended to a list, one item after another.
use Rattle.std.proofs.Common.{◌≡◌, ℕ, ◌+◌, zero, suc, List, [], ◌∷◌, ◌++◌, map, arith, ap, ◌∙◌, sym, add-one, append_assoc}
use Rattle.std.specs.List.{range_with_len}
use Rattle.std.proofs.lemmas.List.{map-append}
use Rattle.std.proofs.lemmas.Grind.{common_steps}

-- one number more
one_more : (a n j : ℕ) → a + n ≡ j → range_with_len a (suc n) ≡ range_with_len a n ++ j ∷ []
one_more a zero j e = grind (arith, common_steps)
one_more a (suc n) j e = let next : (a + 1) + n ≡ j = omega arith in ap (λ xs. a ∷ xs) (one_more (a + 1) n j next)

-- what is made of one number more is pushed behind what was made of those before
pub pushed : {A : Type 0} (f : ℕ → A) (n : ℕ) (start old new : List A) (x : A)
    → old ≡ start ++ map f (range_with_len 0 n) → new ≡ old ++ x ∷ [] → x ≡ f n
    → new ≡ start ++ map f (range_with_len 0 (n + 1))
pushed f n start old new x before items here =
    items ∙ ap (λ ys. ys ++ x ∷ []) before ∙ append_assoc start (map f (range_with_len 0 n)) (x ∷ [])
    ∙ ap (λ y. start ++ (map f (range_with_len 0 n) ++ y ∷ [])) here
    ∙ ap (λ ys. start ++ ys) (sym (map-append f (range_with_len 0 n) (n ∷ []))
    ∙ ap (λ xs. map f xs) (sym (one_more 0 n n (omega arith)) ∙ ap (λ k. range_with_len 0 k) (sym (add-one n))))

-- five parts, each appended behind those before
pub in_order : {A : Type 0} (x : A) (old one two three four five ss bs cs ds : List A)
    → one ≡ old ++ x ∷ [] → two ≡ one ++ ss → three ≡ two ++ bs → four ≡ three ++ cs → five ≡ four ++ ds
    → five ≡ old ++ (x ∷ (ss ++ (bs ++ (cs ++ ds))))
in_order x old one two three four five ss bs cs ds a b c d e = rw (e, d, c, b, a) (simp append_assoc)
