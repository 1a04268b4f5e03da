-- A reader that is read up to a limit, and has fewer bytes than that, is read to its end.
use Rattle.std.proofs.Common.{arith, ◌≡◌, ◌<◌, ◌∙◌, IfSome, length, ℕ, List, [], ◌++◌, ap, subst}
use Rattle.std.specs.Prelude.{Option, None, Some, take, option_map}
use Rattle.std.proofs.lemmas.List.{length-take, take_all}

-- fewer bytes than the limit of n, so what was taken is all
taken : (n : ℕ) (bytes : List ℕ) (o : Option (List ℕ)) → length bytes < n
    → IfSome (option_map (take n) o) (λ xs. bytes ≡ [] ++ xs) → IfSome o (λ xs. bytes ≡ xs)
taken n bytes None few known = known
taken n bytes (Some xs) few known =
    let is_min = ap (λ (l : List ℕ). length l) known ∙ length-take n xs in
    known ∙ take_all n xs (omega (arith, few, is_min))

-- the same of a limit, what stood in front and an inner reader that are known by equations
pub taken_whole : (n limit : ℕ) (front bytes : List ℕ) (o inner : Option (List ℕ))
    → limit ≡ n → front ≡ [] → inner ≡ o → length bytes < n
    → IfSome (option_map (take limit) inner) (λ xs. bytes ≡ front ++ xs) → IfSome o (λ xs. bytes ≡ xs)
taken_whole n limit front bytes o inner is_limit none is_inner few known =
    taken n bytes o few
    (subst (λ (p : Option (List ℕ)). IfSome (option_map (take n) p) (λ xs. bytes ≡ [] ++ xs)) is_inner
    (subst (λ (f : List ℕ). IfSome (option_map (take n) inner) (λ xs. bytes ≡ f ++ xs)) none
    (subst (λ (m : ℕ). IfSome (option_map (take m) inner) (λ xs. bytes ≡ front ++ xs)) is_limit known)))
