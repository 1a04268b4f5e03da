-- What is found in a list of views.
use Rattle.std.proofs.Common.{◌≡◌, ◌∙◌, ap, refl, inl, inr, Bool, List, [], ◌∷◌, Option, Some, None, option_map, map}
use Rattle.std.specs.List.{find}
use Rattle.gen_types.specs.Members.{bool_cases}

pub find_mapped : {X Y : Type 0} (v : X → Y) (p : Y → Bool) → (xs : List X) → option_map v (find (λ x. p (v x)) xs) ≡ find p (map v xs)
find_mapped v p [] = refl
find_mapped v p (x ∷ xs) = elim (bool_cases (p (v x))) [ inl e ↦ rw e refl | inr e ↦ rw e (find_mapped v p xs) ]

composed : {X Y Z : Type 0} (u : X → Y) (v : Y → Z) → (r : Option X) → option_map (λ x. v (u x)) r ≡ option_map v (option_map u r)
composed u v None = refl
composed u v (Some x) = refl

-- what is found by a test of views is what is found in the views
pub found_shown : {X Y Z : Type 0} (u : X → Y) (v : Y → Z) (p : Z → Bool) (ys : List Y) (r : Option X) → option_map u r ≡ find (λ y. p (v y)) ys → option_map (λ x. v (u x)) r ≡ find p (map v ys)
found_shown u v p ys r e = composed u v r ∙ (ap (option_map v) e ∙ find_mapped v p ys)
