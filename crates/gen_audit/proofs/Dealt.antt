-- What is dealt, step by step.
use Rattle.std.proofs.Common.{◌≡◌, ℕ, zero, suc, ◌+◌, ◌<◌, List, [], ◌∷◌, ◌++◌, length, get_or, drop, refl, subst, arith}
use Rattle.gen_audit.specs.Loops.Dealing.{dealt, gets, turn_after, Each}

pub dealt_step : {X : Type 0} (last k : ℕ) (x : X) (xs : List X) → dealt last k (x ∷ xs) ≡ gets k x ++ dealt last (turn_after last k) xs
dealt_step last zero x xs = refl
dealt_step last (suc k) x xs = refl

-- ---- each

pub each_more : {X : Type 0} (P : ℕ → X → Type 0) (k n : ℕ) (xs : List X) (y : X) → n ≡ k + length xs → Each P k xs → P n y → Each P k (xs ++ y ∷ [])
each_more P k n [] y e each one = let z : n ≡ k = omega arith in (subst (λ m. P m y) z one, tt)
each_more P k n (x ∷ xs) y e each one = (each.0, each_more P (suc k) n xs y (omega arith) each.1 one)

-- the first goes behind the others, whose places are each one less
pub each_shifts : {X : Type 0} (P Q : ℕ → X → Type 0) (k : ℕ) (xs : List X) → ((j : ℕ) (x : X) → P (suc j) x → Q j x) → Each P (suc k) xs → Each Q k xs
each_shifts P Q k [] shift each = tt
each_shifts P Q k (x ∷ xs) shift each = (shift k x each.0, each_shifts P Q (suc k) xs shift each.1)

-- a list that has a first element
pub split_first : {X : Type 0} (xs ys : List X) (r : X) → 0 < length xs → r ≡ get_or xs 0 r → ys ≡ drop 1 xs → xs ≡ r ∷ ys
split_first [] ys r low is rest = absurd (omega arith)
split_first (x ∷ xs) ys r low is rest = let a : r ≡ x = is in let b : ys ≡ xs = rest in cc
