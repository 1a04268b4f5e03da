-- The names in a list that are not empty.
use Rattle.std.proofs.Common.{◌≡◌, ℕ, Bool, true, false, not, cond, eqb, List, [], ◌∷◌, filter, length, map, Bor, refl, ap}

kept : (b : Bool) (x : Bor (List ℕ)) (left : List (Bor (List ℕ))) (others : List (List ℕ)) → map (λ (y : Bor (List ℕ)). y.now) left ≡ others → map (λ (y : Bor (List ℕ)). y.now) (cond b (x ∷ left) left) ≡ cond b (x.now ∷ others) others
kept true x left others e = ap (λ (ys : List (List ℕ)). x.now ∷ ys) e
kept false x left others e = e

-- the texts of what is kept are the texts that are kept
pub texts_kept : (test : List ℕ → Bool) (xs : List (Bor (List ℕ))) → map (λ (x : Bor (List ℕ)). x.now) (filter (λ (x : Bor (List ℕ)). test x.now) xs) ≡ filter test (map (λ (x : Bor (List ℕ)). x.now) xs)
texts_kept test [] = refl
texts_kept test (x ∷ xs) = kept (test x.now) x _ _ (texts_kept test xs)
