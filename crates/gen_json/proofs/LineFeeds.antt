-- No byte of a value's text is a line feed.
use Rattle.std.proofs.Common.{◌≡◌, ℕ, ℤ, pos, negsuc, zero, suc, ◌+◌, ◌/◌, ◌%◌, ◌<◌, ◌||◌, ◌&&◌, ◌⊎◌, Bool, true, false, not, cond, eqb, ◌==◌, List, [], ◌∷◌, ◌++◌, refl, arith, inl, inr, nat_lt}
use Rattle.std.specs.Char.{digit_char}
use Rattle.std.specs.Fmt.{decimal, digits, signed_decimal, digits_onto, digit_glyph}
use Rattle.std.specs.List.{list_all}
use Rattle.std.proofs.lemmas.Bool.{or_parts, eqb-true, ltb-false}
use Rattle.std.proofs.lemmas.Bool.Decides.{nat_tests}
use Rattle.json.specs.Print.{escape, escape_byte, escape_letter, quoted}
use Rattle.serde_json.specs.Data.{unsigned, negative, float, Data, null, boolean, number, string, array, object, Items, no_items, item, Members, no_members, member}
use Rattle.serde_json.specs.Written.{comma_if, compact_text, has_float, items_have_float, items_text, members_have_float, members_text}

-- no byte is a line feed
abbrev pub IsLineless : List ℕ → Type 0
IsLineless f = list_all (λ b. not (eqb b 10)) f ≡ true

unlike : (b : ℕ) → 10 < b → eqb b 10 ≡ false
unlike b lt = grind (arith, nat_tests, lt)

cons_free : (x : ℕ) (xs : List ℕ) → eqb x 10 ≡ false → IsLineless xs → IsLineless (x ∷ xs)
cons_free x xs e h = rw e h

append_free : (xs ys : List ℕ) → IsLineless xs → IsLineless ys → IsLineless (xs ++ ys)
append_free [] ys e h = h
append_free (x ∷ xs) ys e h =
    let p = split (not (eqb x 10)) _ e in
    rw (p.0, append_free xs ys p.1 h) refl
  where
    split : (a b : Bool) → (a && b) ≡ true → (a ≡ true) × (b ≡ true)
    split true b e = (refl, e)
    split false b e = absurd cc

either_free : (b : Bool) (xs ys : List ℕ) → IsLineless xs → (b ≡ false → IsLineless ys) → IsLineless (cond b xs ys)
either_free true xs ys h k = h
either_free false xs ys h k = k refl

-- ---- numbers

glyph_by : (b : Bool) (d : ℕ) → 10 < cond b (48 + d) (87 + d)
glyph_by true d = omega arith
glyph_by false d = omega arith

digits_free : (k base n : ℕ) (acc : List ℕ) → IsLineless acc → IsLineless (digits_onto k base false n acc)
digits_free zero base n acc h = h
digits_free (suc k) base n acc h =
    let more : IsLineless (digit_glyph false (n % base) ∷ acc) = cons_free (digit_glyph false (n % base)) acc (unlike _ (glyph_by (nat_lt (n % base) 10) (n % base))) h in
    either_free (n / base == 0) _ _ more (λ e. digits_free k base (n / base) _ more)

number_free : (n : ℕ) → IsLineless (decimal n)
unfolding digits
number_free n = digits_free 64 10 n [] refl

signed_free : (z : ℤ) → IsLineless (signed_decimal z)
signed_free (pos n) = number_free n
signed_free (negsuc n) = number_free (suc n)

-- ---- strings

or_cases : (a b : Bool) → (a || b) ≡ true → (a ≡ true) ⊎ (b ≡ true)
or_cases true b e = inl refl
or_cases false b e = inr e

letter_by : (a b c d e f : Bool) (x : ℕ) → (a ≡ true → eqb x 10 ≡ false) → eqb (cond a x (cond b 98 (cond c 102 (cond d 110 (cond e 114 (cond f 116 0)))))) 10 ≡ false
letter_by true b c d e f x h = h refl
letter_by false true c d e f x h = refl
letter_by false false true d e f x h = refl
letter_by false false false true e f x h = refl
letter_by false false false false true f x h = refl
letter_by false false false false false true x h = refl
letter_by false false false false false false x h = refl

stop_free : (x : ℕ) → ((x == 34) || (x == 92)) ≡ true → eqb x 10 ≡ false
stop_free x e = elim (or_cases (x == 34) (x == 92) e) [
  | inl is ↦ unlike x (let same = eqb-true x 34 is in omega arith)
  | inr is ↦ unlike x (let same = eqb-true x 92 is in omega arith)
]

byte_free : (x : ℕ) → IsLineless (escape_byte x)
unfolding escape_byte
byte_free x =
    let letter = letter_by ((x == 34) || (x == 92)) (x == 8) (x == 12) (x == 10) (x == 13) (x == 9) x (stop_free x) in
    let digit = λ (d : ℕ). unlike (digit_char d) (glyph_by (nat_lt d 10) d) in
    either_free (nat_lt 0 (escape_letter x)) _ _ (cons_free (escape_letter x) [] letter refl)
    (λ e. either_free (nat_lt x 32) _ _ (cons_free (digit_char (x / 16)) (digit_char (x % 16) ∷ []) (digit (x / 16)) (cons_free (digit_char (x % 16)) [] (digit (x % 16)) refl))
    (λ large. cons_free x [] (unlike x (let least = ltb-false x 32 large in omega arith)) refl))

escape_free : (s : List ℕ) → IsLineless (escape s)
escape_free [] = refl
escape_free (x ∷ s) = append_free (escape_byte x) (escape s) (byte_free x) (escape_free s)

quoted_free : (s : List ℕ) → IsLineless (quoted s)
quoted_free s = append_free (escape s) (34 ∷ []) (escape_free s) refl

-- ---- values

comma_free : (later : Bool) → IsLineless (comma_if later)
comma_free true = refl
comma_free false = refl

mutual
  pub compact_free : (d : Data) → has_float d ≡ false → IsLineless (compact_text d)
  compact_free null h = refl
  compact_free (boolean true) h = refl
  compact_free (boolean false) h = refl
  compact_free (number (unsigned n)) h = number_free n
  compact_free (number (negative z)) h = signed_free z
  compact_free (number (float x)) h = absurd cc
  compact_free (string s) h = quoted_free s
  compact_free (array ds) h = items_free false ds h
  compact_free (object ms) h = members_free false ms h

  items_free : (later : Bool) (ds : Items) → items_have_float ds ≡ false → IsLineless (items_text later ds)
  items_free later no_items h = refl
  items_free later (item d ds) h =
      let p = or_parts (has_float d) _ h in
      append_free (comma_if later) _ (comma_free later) (append_free (compact_text d) _ (compact_free d p.0) (items_free true ds p.1))

  members_free : (later : Bool) (ms : Members) → members_have_float ms ≡ false → IsLineless (members_text later ms)
  members_free later no_members h = refl
  members_free later (member k d ms) h =
      let p = or_parts (has_float d) _ h in
      append_free (comma_if later) _ (comma_free later) (append_free (quoted k) _ (quoted_free k) (append_free (compact_text d) _ (compact_free d p.0) (members_free true ms p.1)))
