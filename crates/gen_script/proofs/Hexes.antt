-- Hexadecimal digits that are decoded spell the bytes, and digits that spell bytes are decoded.
use Rattle.std.proofs.Common.{◌≡◌, ℕ, ◌+◌, ◌-◌, ◌*◌, ◌/◌, ◌%◌, ◌<◌, ◌≤◌, Bool, true, false, cond, ◌&&◌, eqb, leb, List, [], ◌∷◌, length, Option, Some, None, Result, Ok, Err, refl, ap, subst, ◌∙◌, arith, inl, inr}
use Rattle.std.proofs.lemmas.Bool.{leb-true, le-leb}
use Rattle.std.proofs.lemmas.Bool.Decides.{nat_tests}
use Rattle.hex.specs.declared.error.FromHexError.{FromHexError}
use Rattle.hex.specs.declared.error.FromHexError.TheVariants.{OddLength}
use Rattle.hex.specs.Hex.{◌>>=◌, hex_digit_value, digit_or_error, value_at, pair_value, decode_pairs, decode_of}
use Rattle.hex.proofs.HexLemmas.{decode_of-even}
use Rattle.gen_types.proofs.Decimals.{both}
use Rattle.gen_types.proofs.Steps.{after_guard, at_end}
use Rattle.gen_types.proofs.Cutting.{IsFree}
use Rattle.gen_script.specs.Digits.{IsHexDigit, SpellsBytes}

after : {A B P : Type 0} (r : Result A FromHexError) (f : A → Result B FromHexError) (y : B) → (r >>= f) ≡ Ok y → ((x : A) → r ≡ Ok x → f x ≡ Ok y → P) → P
after (Ok x) f y e k = k x refl e
after (Err d) f y e k = absurd cc

-- one digit
within : (low high c : ℕ) → (leb low c && leb c high) ≡ true → (low ≤ c) × (c ≤ high)
within low high c e = let h = both _ _ e in (leb-true _ _ h.0, leb-true _ _ h.1)

some_is : (x y : ℕ) → Some x ≡ Some y → x ≡ y
some_is x y e = cc

picked : {P : Type 0} (b : Bool) (x v : ℕ) (other : Option ℕ) → cond b (Some x) other ≡ Some v → (b ≡ true → x ≡ v → P) → (b ≡ false → other ≡ Some v → P) → P
picked true x v other e yes_then no_then = yes_then refl (some_is x v e)
picked false x v other e yes_then no_then = no_then refl e

last_picked : {P : Type 0} (b : Bool) (x v : ℕ) → cond b (Some x) None ≡ Some v → (b ≡ true → x ≡ v → P) → P
last_picked true x v e k = k refl (some_is x v e)
last_picked false x v e k = absurd cc

value_found : (c v : ℕ) → hex_digit_value c ≡ Some v → IsHexDigit c v
value_found c v e =
    picked (leb 65 c && leb c 70) (c - 55) v _ e
    (λ upper is. let r = within 65 70 c upper in inr (omega (arith, is, r), omega (arith, is, r), inr (omega (arith, is, r))))
    (λ other e0. picked (leb 97 c && leb c 102) (c - 87) v _ e0
    (λ lower is. let r = within 97 102 c lower in inr (omega (arith, is, r), omega (arith, is, r), inl (omega (arith, is, r))))
    (λ other' e1. last_picked (leb 48 c && leb c 57) (c - 48) v e1
    (λ digit is. let r = within 48 57 c digit in inl (omega (arith, is, r), omega (arith, is, r)))))

inside : (low high c : ℕ) → low ≤ c → c ≤ high → (leb low c && leb c high) ≡ true
inside low high c l h = rw (le-leb low c l, le-leb c high h) refl

above : (low high c : ℕ) → high < c → (leb low c && leb c high) ≡ false
above low high c h = grind (arith, nat_tests)

under : (low high c : ℕ) → c < low → (leb low c && leb c high) ≡ false
under low high c h = grind (arith, nat_tests)

value_again : (c v : ℕ) → IsHexDigit c v → hex_digit_value c ≡ Some v
value_again c v (inl h) =
    let is : c - 48 ≡ v = omega (arith, h) in
    rw (under 65 70 c (omega (arith, h)), under 97 102 c (omega (arith, h)), inside 48 57 c (omega (arith, h)) (omega (arith, h))) (ap Some is)
value_again c v (inr h) =
    elim h.2 [
      | inl lower ↦
          let is : c - 87 ≡ v = omega (arith, lower, h.0) in
          rw (above 65 70 c (omega (arith, lower, h.0)), inside 97 102 c (omega (arith, lower, h.0)) (omega (arith, lower, h.1))) (ap Some is)
      | inr upper ↦
          let is : c - 55 ≡ v = omega (arith, upper, h.0) in
          rw (inside 65 70 c (omega (arith, upper, h.0)) (omega (arith, upper, h.1))) (ap Some is)
    ]

digit_found : (c i v : ℕ) (o : Option ℕ) → digit_or_error c i o ≡ Ok v → o ≡ Some v
digit_found c i v None e = absurd cc
digit_found c i v (Some w) e = cc

digit_below : (c v : ℕ) → IsHexDigit c v → v < 16
digit_below c v (inl h) = omega (arith, h.0)
digit_below c v (inr h) = h.1

-- two digits
abbrev PairOf : ℕ → ℕ → ℕ → Type 0
PairOf high low b = IsHexDigit high (b / 16) × IsHexDigit low (b % 16)

pair_made : (high low h l : ℕ) → IsHexDigit high h → IsHexDigit low l → PairOf high low (h * 16 + l)
pair_made high low h l p q =
    let below = digit_below low l q in
    let first : h ≡ (h * 16 + l) / 16 = omega arith in
    let second : l ≡ (h * 16 + l) % 16 = omega arith in
    (subst (IsHexDigit high) first p, subst (IsHexDigit low) second q)

abbrev done : {A : Type 0} → A → Result A FromHexError
done x = Ok x

pair_found : (high low i b : ℕ) → pair_value high low i ≡ Ok b → PairOf high low b
pair_found high low i b e =
    after (value_at high i) (λ h. value_at low (i + 1) >>= λ l. done (h * 16 + l)) b e (λ h r0 e0.
    after (value_at low (i + 1)) (λ l. done (h * 16 + l)) b e0 (λ l r1 e1.
    at_end {F = FromHexError} (PairOf high low) (h * 16 + l) b e1
    (pair_made high low h l (value_found high h (digit_found high i h _ r0)) (value_found low l (digit_found low (i + 1) l _ r1)))))

pair_again : (high low i b : ℕ) → PairOf high low b → pair_value high low i ≡ Ok b
pair_again high low i b h =
    let back : (b / 16) * 16 + b % 16 ≡ b = omega arith in
    rw (value_again high (b / 16) h.0, value_again low (b % 16) h.1) (ap Ok back)

-- all digits
pub pairs_found : (i : ℕ) (digits bytes : List ℕ) → decode_pairs i digits ≡ Ok bytes → SpellsBytes digits bytes
unfolding decode_pairs
pairs_found i [] bytes e = at_end {F = FromHexError} (SpellsBytes []) [] bytes e tt
pairs_found i (d ∷ []) bytes e = absurd cc
pairs_found i (high ∷ low ∷ digits) bytes e =
    after (pair_value high low i) (λ b. decode_pairs (i + 2) digits >>= λ more. done (b ∷ more)) bytes e (λ b r0 e0.
    after (decode_pairs (i + 2) digits) (λ more. done (b ∷ more)) bytes e0 (λ more r1 e1.
    let p = pair_found high low i b r0 in
    at_end {F = FromHexError} (SpellsBytes (high ∷ low ∷ digits)) (b ∷ more) bytes e1 (p.0, p.1, pairs_found (i + 2) digits more r1)))

pub pairs_again : (i : ℕ) (digits bytes : List ℕ) → SpellsBytes digits bytes → decode_pairs i digits ≡ Ok bytes
unfolding decode_pairs
pairs_again i [] [] h = refl
pairs_again i [] (b ∷ bytes) h = absurd h
pairs_again i (d ∷ []) [] h = absurd h
pairs_again i (d ∷ []) (b ∷ bytes) h = absurd h
pairs_again i (high ∷ low ∷ digits) [] h = absurd h
pairs_again i (high ∷ low ∷ digits) (b ∷ bytes) h = rw (pair_again high low i b (h.0, h.1), pairs_again (i + 2) digits bytes h.2) refl

even_many : (digits bytes : List ℕ) → SpellsBytes digits bytes → length digits ≡ 2 * length bytes
even_many [] [] h = refl
even_many [] (b ∷ bytes) h = absurd h
even_many (d ∷ []) [] h = absurd h
even_many (d ∷ []) (b ∷ bytes) h = absurd h
even_many (high ∷ low ∷ digits) [] h = absurd h
even_many (high ∷ low ∷ digits) (b ∷ bytes) h = let r = even_many digits bytes h.2 in omega (arith, r)

pub decoded_found : (digits bytes : List ℕ) → decode_of digits ≡ Ok bytes → SpellsBytes digits bytes
decoded_found digits bytes e =
    after_guard (eqb (length digits % 2) 1) OddLength (decode_pairs 0 digits) bytes e (λ even r. pairs_found 0 digits bytes r)

pub decoded_again : (digits bytes : List ℕ) → SpellsBytes digits bytes → decode_of digits ≡ Ok bytes
decoded_again digits bytes h =
    let even = even_many digits bytes h in
    decode_of-even digits (omega (arith, even)) ∙ pairs_again 0 digits bytes h

-- no digit is a byte below 48
digit_other : (c d v : ℕ) → c < 48 → IsHexDigit d v → eqb d c ≡ false
digit_other c d v lt (inl h) = let apart : c < d = omega (arith, h) in grind (arith, nat_tests, apart)
digit_other c d v lt (inr h) = let apart : c < d = elim h.2 [ inl low ↦ omega (arith, low, h.0) | inr up ↦ omega (arith, up, h.0) ] in grind (arith, nat_tests, apart)

pub digits_free : (c : ℕ) (digits bytes : List ℕ) → c < 48 → SpellsBytes digits bytes → IsFree c digits
digits_free c [] [] lt h = refl
digits_free c [] (b ∷ bytes) lt h = absurd h
digits_free c (d ∷ []) [] lt h = absurd h
digits_free c (d ∷ []) (b ∷ bytes) lt h = absurd h
digits_free c (high ∷ low ∷ digits) [] lt h = absurd h
digits_free c (high ∷ low ∷ digits) (b ∷ bytes) lt h = rw (digit_other c high (b / 16) lt h.0, digit_other c low (b % 16) lt h.1, digits_free c digits bytes lt h.2) refl
