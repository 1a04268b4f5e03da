-- Steps of loops over numbers, and over the generals of a walk.
use Rattle.std.proofs.Common.{◌≡◌, ℕ, ◌+◌, ◌-◌, ◌<◌, ◌≤◌, ◌↔◌, inl, inr, true, false, List, [], ◌∷◌, length, take, drop, get_or, sym, subst, arith}
use Rattle.std.proofs.lemmas.Bool.{cases_eq}
use Rattle.std.proofs.lemmas.List.{take_all}
use Rattle.gen_walks.specs.Walks.{Leads}

pub told_otherwise : false ≡ true → ⊥
told_otherwise e = cc

-- what holds below k and of k holds below k + 1
pub held_up_to : (P : ℕ → Type 0) (k : ℕ) → ((y : ℕ) → y < k → P y) → P k → (y : ℕ) → y < k + 1 → P y
held_up_to P k so here y l = elim (cases_eq y k) [
  | inl e ↦ subst P (sym e) here
  | inr ne ↦ so y (omega arith)
]

-- one step on, the rest of the list leads on where the whole list did
pub walked_on : (near : ℕ → ℕ → Type 0) (at : ℕ) (list : List ℕ) (n next to : ℕ) (L : Type 0) → 1 ≤ length list → n ≡ length list - 1 → next ≡ get_or list 0 next → near at next → Leads near at list to ↔ L → Leads near next (take n (drop 1 list)) to ↔ L
walked_on near at [] n next to L some e is joins so = absurd (omega arith)
walked_on near at (x ∷ more) n next to L some e is joins so =
    let all : take n more ≡ more = take_all n more (omega arith) in
    rw (all, is) ((λ h. so.0 (subst (near at) is joins, h)), (λ l. (so.1 l).1))
