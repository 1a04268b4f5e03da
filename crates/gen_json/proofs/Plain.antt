-- Lists of values that have no floats, and nest a few levels deep.
use Rattle.std.proofs.Common.{◌≡◌, ℕ, ◌≤◌, List, [], ◌∷◌, map, false, refl, arith}
use Rattle.serde_json.specs.Data.{Data, depth, items_depth}
use Rattle.serde_json.specs.View.{items_of}
use Rattle.serde_json.specs.Written.{has_float, items_have_float}
use Rattle.gen_json.specs.JsonData.{numbers_data, whole}

pub items_plain : {A : Type 0} (f : A → Data) → ((x : A) → has_float (f x) ≡ false) → (xs : List A)
    → items_have_float (items_of (map f xs)) ≡ false
items_plain f h [] = refl
items_plain f h (x ∷ xs) = rw (h x) (items_plain f h xs)

pub items_shallow : {A : Type 0} (f : A → Data) (n : ℕ) → ((x : A) → depth (f x) ≤ n) → (xs : List A)
    → items_depth (items_of (map f xs)) ≤ n
items_shallow f n h [] = omega arith
items_shallow f n h (x ∷ xs) = omega (arith, h x, items_shallow f n h xs)

pub numbers_plain : (ns : List ℕ) → has_float (numbers_data ns) ≡ false
numbers_plain ns = items_plain whole (λ n. refl) ns

pub numbers_shallow : (ns : List ℕ) → depth (numbers_data ns) ≤ 1
numbers_shallow ns = omega (arith, items_shallow whole 0 (λ n. omega arith) ns)
