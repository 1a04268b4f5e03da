-- Spellings that grow by one more.
use Rattle.std.proofs.Common.{◌≡◌, List, [], ◌∷◌, ◌++◌, append_assoc, sym, ap, ◌∙◌}
use Rattle.std.specs.List.{flat_map}
use Rattle.std.proofs.lemmas.Grind.{flat_map-append}
use Rattle.std.proofs.lemmas.List.{append-nil}

pub grown : {X Y : Type 0} (f : X → List Y) (start mid out : List Y) (xs : List X) (x : X) → mid ≡ start ++ flat_map f xs → out ≡ mid ++ f x → out ≡ start ++ flat_map f (xs ++ x ∷ [])
grown {X} {Y} f start mid out xs x so_far e =
    e ∙ ap (λ (t : List Y). t ++ f x) so_far ∙ append_assoc start (flat_map f xs) (f x)
    ∙ sym (ap (λ (t : List Y). start ++ t) (flat_map-append f xs (x ∷ []) ∙ ap (λ (t : List Y). flat_map f xs ++ t) (append-nil (f x))))
