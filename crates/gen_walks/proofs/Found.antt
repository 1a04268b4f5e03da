-- The rounds of the search, one after the other.
use Rattle.std.proofs.Common.{◌≡◌, ◌≢◌, ℕ, zero, suc, ◌+◌, ◌<◌, ◌≤◌, ◌⊎◌, inl, inr, cond, length, refl, sym, ap, ◌∙◌, arith, get_or, get_or-set_other, get_or-set_same, ◌==◌}
use Rattle.std.proofs.lemmas.Bool.{cases_eq, cases_lt, cond_both, eq-eqb, ne_eqb}
use Rattle.std.proofs.Math.ListN.{set, replicate}
use Rattle.gen_walks.specs.Levels.{level}
use Rattle.gen_walks.specs.Loops.Search.{IsNextLevel, AreLevels}

-- how many of the generals below n have no level
pub unmet : (ℕ → ℕ) → ℕ → ℕ
unmet lev zero = 0
unmet lev (suc n) = cond (lev n == 255) 1 0 + unmet lev n

weight_le : (x y : ℕ) → (x ≡ 255 → y ≡ 255) → cond (x == 255) 1 0 ≤ cond (y == 255) 1 0
weight_le x y h = elim (cases_eq x 255) [
  | inl e ↦ rw (eq-eqb y 255 (h e)) (cond_both (x == 255) 1 0 (λ z. z ≤ 1) (λ _. omega arith) (λ _. omega arith))
  | inr n ↦ rw (ne_eqb x 255 n) (omega arith)
]

weight_lt : (x y : ℕ) → x ≢ 255 → y ≡ 255 → cond (x == 255) 1 0 + 1 ≤ cond (y == 255) 1 0
weight_lt x y n e = rw (eq-eqb y 255 e, ne_eqb x 255 n) (omega arith)

weight_one : (x : ℕ) → cond (x == 255) 1 0 ≤ 1
weight_one x = cond_both (x == 255) 1 0 (λ z. z ≤ 1) (λ _. omega arith) (λ _. omega arith)

weight_none : (x : ℕ) → x ≢ 255 → cond (x == 255) 1 0 ≤ 0
weight_none x n = rw (ne_eqb x 255 n) (omega arith)

unmet_all : (lev : ℕ → ℕ) (n : ℕ) → unmet lev n ≤ n
unfolding unmet
unmet_all lev zero = omega arith
unmet_all lev (suc n) = omega (arith, unmet_all lev n, weight_one (lev n))

unmet_one : (lev : ℕ → ℕ) (n s : ℕ) → s < n → lev s ≡ 0 → unmet lev n + 1 ≤ n
unfolding unmet
unmet_one lev zero s l e = absurd (omega arith)
unmet_one lev (suc n) s l e = elim (cases_eq s n) [
  | inl q ↦ let z : lev n ≢ 255 = λ x. omega (arith, ap lev q) in omega (arith, weight_none (lev n) z, unmet_all lev n)
  | inr q ↦ omega (arith, weight_one (lev n), unmet_one lev n s (omega arith) e)
]

-- what k rounds have found
pub record IsFound (near : ℕ → ℕ → Type 0) (source : ℕ) (k : ℕ) (lev : ℕ → ℕ) : Type 0 where
  pub lowest : lev source ≡ 0
  pub bounded : (v : ℕ) → v < 16 → (lev v ≡ 255) ⊎ (lev v ≤ k)
  pub comes : (v : ℕ) → v < 16 → lev v < 255 → (v ≡ source) ⊎ ((u : ℕ) × (near u v) × (lev v ≡ lev u + 1))
  pub even : (u v : ℕ) → near u v → lev u < k → lev v ≤ lev u + 1
  pub fewer : unmet lev 16 + k ≤ 15

pub begun : (near : ℕ → ℕ → Type 0) (source : ℕ) (lev : ℕ → ℕ) → source < 16 → lev source ≡ 0 → ((v : ℕ) → v ≢ source → lev v ≡ 255) → IsFound near source 0 lev
begun near source lev at zero_here other = record {
  lowest = zero_here;
  bounded = λ v l. elim (cases_eq v source) [ inl e ↦ inr (omega (arith, ap lev e)) | inr n ↦ inl (other v n) ];
  comes = λ v l h. elim (cases_eq v source) [ inl e ↦ inl e | inr n ↦ absurd (omega (arith, other v n)) ];
  even = λ u v n h. absurd (omega arith);
  fewer = omega (arith, unmet_one lev 16 source at zero_here);
}

abbrev unset : ℕ
unset = 255

blank : (n v : ℕ) → get_or {A = ℕ} (replicate {A = ℕ} n 255) v 255 ≡ unset
blank zero v = refl
blank (suc n) zero = refl
blank (suc n) (suc v) = blank n v

pub begun_row : (near : ℕ → ℕ → Type 0) (source : ℕ) → source < 16 → IsFound near source 0 (level (set {A = ℕ} (replicate 16 255) source 0))
begun_row near source at =
    let long : source < length {A = ℕ} (replicate 16 255) = at in
    begun near source (level (set {A = ℕ} (replicate 16 255) source 0)) at (rw get_or-set_same refl) (λ v n. rw get_or-set_other (blank 16 v))

module _ (near : ℕ → ℕ → Type 0) (source : ℕ) (ends : (u v : ℕ) → near u v → (u < 16) × (v < 16)) (at : source < 16) (k : ℕ) (low : k < 16) (lev next : ℕ → ℕ) (so : IsFound near source k lev) (step : (v : ℕ) → v < 16 → IsNextLevel near lev k v (next v)) where
  -- who has a level keeps it
  kept : (v : ℕ) → v < 16 → lev v < 255 → next v ≡ lev v
  kept v l h = elim (step v l) [
    | inl (a, b) ↦ b
    | inr (inl (a, b, c)) ↦ absurd (omega arith)
    | inr (inr (a, b, c)) ↦ absurd (omega arith)
  ]

  bounds : (v : ℕ) → v < 16 → (next v ≡ 255) ⊎ (next v ≤ k + 1)
  bounds v l = elim (step v l) [
    | inl (a, b) ↦ elim (so.bounded v l) [ inl e ↦ inl (b ∙ e) | inr e ↦ inr (omega arith) ]
    | inr (inl (a, b, c)) ↦ inr (omega arith)
    | inr (inr (a, b, c)) ↦ inl b
  ]

  came : (v : ℕ) → v < 16 → next v < 255 → (v ≡ source) ⊎ ((u : ℕ) × (near u v) × (next v ≡ next u + 1))
  came v l h = elim (step v l) [
    | inl (a, b) ↦ elim (so.comes v l (omega arith)) [
      | inl e ↦ inl e
      | inr (u, n, e) ↦ inr (u, n, let q = kept u (ends u v n).0 (omega arith) in omega arith)
    ]
    | inr (inl (a, b, (u, n, e))) ↦ inr (u, n, let q = kept u (ends u v n).0 (omega arith) in omega arith)
    | inr (inr (a, b, c)) ↦ absurd (omega arith)
  ]

  -- the new level of a neighbour of somebody with a level up to k
  evens : (u v : ℕ) → near u v → next u < k + 1 → next v ≤ next u + 1
  evens u v n h = elim (step u (ends u v n).0) [
    | inl (a, b) ↦ elim (cases_lt (lev u) k) [
      | inl l ↦ let q = so.even u v n l in let r = kept v (ends u v n).1 (omega arith) in omega arith
      | inr g ↦ elim (step v (ends u v n).1) [
        | inl (c, d) ↦ elim (so.bounded v (ends u v n).1) [ inl e ↦ absurd (c e) | inr e ↦ omega arith ]
        | inr (inl (c, d, f)) ↦ omega arith
        | inr (inr (c, d, f)) ↦ absurd (f u n (omega arith))
      ]
    ]
    | inr (inl (a, b, c)) ↦ absurd (omega arith)
    | inr (inr (a, b, c)) ↦ absurd (omega arith)
  ]

  -- where the round changes nothing the search has ended
  pub ended : ((v : ℕ) → v < 16 → next v ≡ lev v) → AreLevels near source lev
  ended same = record {
    lowest = so.lowest;
    bounded = λ v l. elim (so.bounded v l) [ inl e ↦ inl e | inr e ↦ inr (omega arith) ];
    comes = so.comes;
    even = λ u v n. elim (so.bounded u (ends u v n).0) [
      | inl e ↦ elim (so.bounded v (ends u v n).1) [ inl f ↦ omega arith | inr f ↦ omega arith ]
      | inr e ↦ omega (arith, same u (ends u v n).0, same v (ends u v n).1, evens u v n (omega (arith, same u (ends u v n).0)))
    ];
  }

  -- who has no level had none
  lost : (v : ℕ) → v < 16 → next v ≡ 255 → lev v ≡ 255
  lost v l h = elim (so.bounded v l) [ inl e ↦ e | inr b ↦ let q = kept v l (omega arith) in omega arith ]

  no_more : (n : ℕ) → n ≤ 16 → unmet next n ≤ unmet lev n
  unfolding unmet
  no_more zero l = omega arith
  no_more (suc n) l = omega (arith, weight_le (next n) (lev n) (lost n (omega arith)), no_more n (omega arith))

  less : (n v : ℕ) → n ≤ 16 → v < n → lev v ≡ 255 → next v ≢ 255 → unmet next n + 1 ≤ unmet lev n
  unfolding unmet
  less zero v l h e d = absurd (omega arith)
  less (suc n) v l h e d = elim (cases_eq v n) [
    | inl q ↦ omega (arith, weight_lt (next n) (lev n) (λ x. d (ap next q ∙ x)) (ap lev (sym q) ∙ e), no_more n (omega arith))
    | inr q ↦ omega (arith, weight_le (next n) (lev n) (lost n (omega arith)), less n v (omega arith) (omega arith) e d)
  ]

  pub more : (v : ℕ) → v < 16 → lev v ≡ 255 → next v ≢ 255 → IsFound near source (k + 1) next
  more v l e d = record {
    lowest = kept source at (omega (arith, so.lowest)) ∙ so.lowest;
    bounded = bounds;
    comes = came;
    even = evens;
    fewer = omega (arith, so.fewer, less 16 v (omega arith) l e d);
  }
