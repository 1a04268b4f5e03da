-- Trees that threads made, in the order of their generals.
use Rattle.std.proofs.Common.{◌≡◌, List, [], ◌∷◌, refl, map}
use Rattle.std.specs.Prelude.{Result, Ok, Err, IfOk, MatchResult}
use Rattle.std.specs.List.{AllZip}

-- values that each are what a function makes of an item are what it makes of all
pub oks_are_map : {X Y : Type 0} (E : Type 0) (f : X → Y) (xs : List X) (ys : List Y)
    → AllZip (λ (x : X) (r : Result Y E). IfOk r (λ y. y ≡ f x)) xs (map Ok ys) → ys ≡ map f xs
oks_are_map E f [] [] all = refl
oks_are_map E f [] (y ∷ ys) all = absurd all
oks_are_map E f (x ∷ xs) [] all = absurd all
oks_are_map E f (x ∷ xs) (y ∷ ys) all = λ i. all.0 i ∷ oks_are_map E f xs ys all.1 i

-- what follows from a fact of each result, for the value of an `Ok`
pub ok_of_match : {T E : Type 0} (r : Result T E) (P Q : T → Type 0) (R : E → Type 0)
    → MatchResult r P R → ((v : T) → P v → Q v) → IfOk r Q
ok_of_match (Ok v) P Q R known then = then v known
ok_of_match (Err e) P Q R known then = tt
