-- A number that is read is spelled so, and a number that is spelled so is read.
use Rattle.std.proofs.Common.{◌≡◌, ℕ, ◌+◌, ◌-◌, ◌*◌, ◌/◌, ◌%◌, ◌<◌, ◌≤◌, Bool, true, false, cond, ◌&&◌, leb, ltb, List, [], ◌∷◌, ◌++◌, Some, None, refl, sym, ap, ◌∙◌, arith, inl, inr}
use Rattle.std.specs.Fmt.{decimal}
use Rattle.std.proofs.lemmas.Bool.{cases_lt, ltb-true, leb-true, lt-ltb, le-leb}
use Rattle.std.proofs.lemmas.Fmt.{decimal_digit, decimal_step}
use Rattle.gen_types.specs.Texts.{is_digit, number_of}

pub both : (a b : Bool) → (a && b) ≡ true → (a ≡ true) × (b ≡ true)
both true b e = (refl, e)
both false b e = absurd cc

some_if : (b : Bool) (x n : ℕ) → cond b (Some x) None ≡ Some n → (b ≡ true) × (x ≡ n)
some_if true x n e = (refl, cc)
some_if false x n e = absurd cc

pub two_digits : (n : ℕ) → 10 ≤ n → n < 100 → decimal n ≡ (48 + n / 10) ∷ (48 + n % 10) ∷ []
two_digits n low high = decimal_step n low (omega arith) ∙ ap (λ (d : List ℕ). d ++ (48 + n % 10) ∷ []) (decimal_digit (n / 10) (omega arith))

pub three_digits : (n : ℕ) → 100 ≤ n → n < 1000 → decimal n ≡ (48 + (n / 10) / 10) ∷ (48 + (n / 10) % 10) ∷ (48 + n % 10) ∷ []
three_digits n low high = decimal_step n (omega arith) (omega arith) ∙ ap (λ (d : List ℕ). d ++ (48 + n % 10) ∷ []) (two_digits (n / 10) (omega arith) (omega arith))

digit_is : (a : ℕ) → is_digit a ≡ true → (48 ≤ a) × (a ≤ 57)
digit_is a e = let h = both _ _ e in (leb-true _ _ h.0, leb-true _ _ h.1)

is_digit_at : (a : ℕ) → 48 ≤ a → a ≤ 57 → is_digit a ≡ true
is_digit_at a low high = rw (le-leb 48 a low, le-leb a 57 high) refl

pub number_found : (bs : List ℕ) (n : ℕ) → number_of bs ≡ Some n → (bs ≡ decimal n) × (n < 256)
number_found [] n e = absurd cc
number_found (a ∷ []) n e =
    let g = some_if (is_digit a) (a - 48) n e in
    let d = digit_is a g.0 in
    let back : 48 + n ≡ a = omega (arith, g.1, d) in
    (sym (decimal_digit n (omega (arith, g.1, d)) ∙ ap (λ x. x ∷ []) back), omega (arith, g.1, d))
number_found (a ∷ b ∷ []) n e =
    let g = some_if (is_digit a && ltb 48 a && is_digit b) (10 * (a - 48) + (b - 48)) n e in
    let h = both _ _ g.0 in
    let k = both _ _ h.0 in
    let da = digit_is a k.0 in
    let pos : 48 < a = ltb-true _ _ k.1 in
    let db = digit_is b h.1 in
    let first : 48 + n / 10 ≡ a = omega (arith, g.1, da, db) in
    let second : 48 + n % 10 ≡ b = omega (arith, g.1, da, db) in
    (sym (two_digits n (omega (arith, g.1, da, db)) (omega (arith, g.1, da, db)) ∙ rw (first, second) refl), omega (arith, g.1, da, db))
number_found (a ∷ b ∷ c ∷ []) n e =
    let g = some_if (is_digit a && ltb 48 a && is_digit b && is_digit c && leb (100 * (a - 48) + 10 * (b - 48) + (c - 48)) 255) (100 * (a - 48) + 10 * (b - 48) + (c - 48)) n e in
    let top = both _ _ g.0 in
    let most : 100 * (a - 48) + 10 * (b - 48) + (c - 48) ≤ 255 = leb-true _ _ top.1 in
    let h = both _ _ top.0 in
    let k = both _ _ h.0 in
    let m = both _ _ k.0 in
    let da = digit_is a m.0 in
    let pos : 48 < a = ltb-true _ _ m.1 in
    let db = digit_is b k.1 in
    let dc = digit_is c h.1 in
    let third : 48 + n % 10 ≡ c = omega (arith, g.1, da, db, dc) in
    let front : n / 10 ≡ 10 * (a - 48) + (b - 48) = omega (arith, g.1, da, db, dc) in
    let second : 48 + (n / 10) % 10 ≡ b = omega (arith, front, da, db) in
    let first : 48 + (n / 10) / 10 ≡ a = omega (arith, front, da, db) in
    (sym (three_digits n (omega (arith, g.1, da, db, dc)) (omega (arith, g.1, da, db, dc)) ∙ rw (first, second, third) refl), omega (arith, g.1))
number_found (a ∷ b ∷ c ∷ d ∷ more) n e = absurd cc

-- the digits of a number below 256
pub number_again : (n : ℕ) → n < 256 → number_of (decimal n) ≡ Some n
number_again n lt =
    elim (cases_lt n 10) [
      | inl small ↦ rw (decimal_digit n small, is_digit_at (48 + n) (omega arith) (omega arith)) (ap Some (omega arith))
      | inr large ↦ (elim (cases_lt n 100) [
        | inl small ↦ rw (two_digits n large small, is_digit_at (48 + n / 10) (omega arith) (omega arith), lt-ltb 48 (48 + n / 10) (omega arith), is_digit_at (48 + n % 10) (omega arith) (omega arith)) (ap Some (omega arith))
        | inr larger ↦
            let value : 100 * ((48 + (n / 10) / 10) - 48) + 10 * ((48 + (n / 10) % 10) - 48) + ((48 + n % 10) - 48) ≡ n = omega arith in
            rw (three_digits n larger (omega arith), is_digit_at (48 + (n / 10) / 10) (omega arith) (omega arith), lt-ltb 48 (48 + (n / 10) / 10) (omega arith), is_digit_at (48 + (n / 10) % 10) (omega arith) (omega arith), is_digit_at (48 + n % 10) (omega arith) (omega arith), value, le-leb n 255 (omega arith)) refl
      ])
    ]
