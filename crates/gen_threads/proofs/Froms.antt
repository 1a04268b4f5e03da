-- Facts of each element of a list, by its index from a number on.
use Rattle.std.proofs.Common.{◌≡◌, ℕ, zero, suc, ◌+◌, ◌<◌, List, [], ◌∷◌, ◌++◌, length, get_or, sym, refl, subst, arith}
use Rattle.gen_scenario.specs.AllAre.{AllAre}

module _ {X : Type 0} (P : ℕ → X → Type 0) where
  abbrev pub From : ℕ → List X → Type 0
  From from xs = (k : ℕ) (d : X) → k < length xs → P (from + k) (get_or xs k d)

  pub from_none : (from : ℕ) (xs : List X) → xs ≡ [] → From from xs
  from_none from xs e = subst (From from) (sym e) (λ k d h. absurd (omega arith))

  pub from_head : (from : ℕ) (x : X) (xs ys : List X) → ys ≡ x ∷ xs → From from ys → P from x
  from_head from x xs ys e h = let z : from + 0 ≡ from = omega arith in subst (λ n. P n x) z (subst (From from) e h 0 x (omega arith))

  pub from_tail : (from : ℕ) (x : X) (xs ys : List X) → ys ≡ x ∷ xs → From from ys → From (from + 1) xs
  from_tail from x xs ys e h k d low = let z : from + suc k ≡ from + 1 + k = omega arith in subst (λ n. P n (get_or xs k d)) z (subst (From from) e h (suc k) d (omega arith))

  pub from_snoc : (from : ℕ) (xs : List X) (x : X) → From from xs → P (from + length xs) x → From from (xs ++ x ∷ [])
  from_snoc from [] x h last zero d low = last
  from_snoc from [] x h last (suc k) d low = absurd (omega arith)
  from_snoc from (y ∷ ys) x h last zero d low = h 0 y (omega arith)
  from_snoc from (y ∷ ys) x h last (suc k) d low =
      let z : from + suc k ≡ from + 1 + k = omega arith in let w : from + length (y ∷ ys) ≡ from + 1 + length ys = omega arith in
      subst (λ n. P n (get_or (ys ++ x ∷ []) k d)) (sym z) (from_snoc (from + 1) ys x (from_tail from y ys (y ∷ ys) refl h) (subst (λ n. P n x) w last) k d (omega arith))

  pub from_push : (from n : ℕ) (xs ys : List X) (x : X) → ys ≡ xs ++ x ∷ [] → n ≡ from + length xs → From from xs → P n x → From from ys
  from_push from n xs ys x e m h last = subst (From from) (sym e) (from_snoc from xs x h (subst (λ k. P k x) m last))

  -- all of them, from the first on
  pub from_all : (n : ℕ) (xs : List X) → AllAre P n xs → From 0 xs
  from_all n xs all k d low = let z : k ≡ 0 + k = omega arith in subst (λ j. P j (get_or xs k d)) z (all.each k d (subst (λ m. k < m) all.count low))
