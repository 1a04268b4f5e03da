-- Who is accused by evidence, and by what the evidence says.
use Rattle.std.proofs.Common.{◌≡◌, ◌==◌, ℕ, List, [], ◌∷◌, map, refl}
use Rattle.std.specs.List.{list_any}
use Rattle.gen_convict.specs.declared.evidence.Evidence as found
use Rattle.gen_convict.specs.Evidence.{told_of}

pub any_told : (g : ℕ) (xs : List found.Evidence)
    → list_any (λ e. e.accused == g) xs ≡ list_any (λ x. x.accused == g) (map told_of xs)
any_told g [] = refl
any_told g (x ∷ xs) = rw (any_told g xs) refl
