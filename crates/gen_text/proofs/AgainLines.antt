-- Lines that are spelled so are read.
use Rattle.std.proofs.Common.{◌≡◌, ℕ, ◌+◌, ◌*◌, ◌/◌, ◌%◌, ◌<◌, ◌≤◌, Bool, true, false, not, ◌&&◌, ◌||◌, ltb, eqb, List, [], ◌∷◌, ◌++◌, length, nat_lt, Ok, refl, ap, ◌∙◌, append_assoc, arith, length-append, inl, inr}
use Rattle.std.specs.List.{list_any, list_all, AllByRecursion}
use Rattle.std.specs.Fmt.{decimal}
use Rattle.std.proofs.lemmas.Bool.{cases_lt, lt-ltb, ltb-true}
use Rattle.std.proofs.lemmas.Bool.Decides.{nat_tests}
use Rattle.std.proofs.lemmas.Fmt.{decimal_digit}
use Rattle.std.proofs.lemmas.Slice.Eq.{bytes_eq-Decides}
use Rattle.gen_types.specs.Texts.{fields}
use Rattle.gen_types.proofs.Cutting.{IsFree, cut_front, cut_joined, all_append}
use Rattle.gen_types.proofs.Decimals.{both, two_digits, three_digits, number_again}
use Rattle.gen_script.specs.Digits.{IsHexDigit, SpellsBytes}
use Rattle.gen_text.specs.Text.{parts, is_foreign, longest_line}
use Rattle.gen_text.specs.Fields.{line_of, said, text_of}
use Rattle.gen_text.specs.LineReading.{number_in, number_behind}
use Rattle.gen_text.specs.CursorReading.{next_line, numbered}
use Rattle.gen_text.proofs.Cuts.{line_at_is}

-- a byte that may stand in a field
abbrev pub is_plain : ℕ → Bool
is_plain b = nat_lt 32 b && nat_lt b 127

abbrev pub IsPlain : List ℕ → Type 0
IsPlain f = list_all is_plain f ≡ true

plain_at : (b : ℕ) → 32 < b → b < 127 → is_plain b ≡ true
plain_at b low high = rw (lt-ltb 32 b low, lt-ltb b 127 high) refl

-- a short field
pub record IsField (f : List ℕ) : Type 0 where
  pub plain : IsPlain f
  pub short : length f ≤ 100

pub word : (f : List ℕ) → IsPlain f → length f ≤ 100 → IsField f
word f p l = record { plain = p; short = l }

pub decimal_field : (n : ℕ) → n < 256 → IsField (decimal n)
decimal_field n lt =
    elim (cases_lt n 10) [
      | inl small ↦ rw (decimal_digit n small) (record { plain = rw (plain_at (48 + n) (omega arith) (omega arith)) refl; short = omega arith })
      | inr large ↦ (elim (cases_lt n 100) [
        | inl small ↦ rw (two_digits n large small) (record { plain = rw (plain_at (48 + n / 10) (omega arith) (omega arith), plain_at (48 + n % 10) (omega arith) (omega arith)) refl; short = omega arith })
        | inr larger ↦ rw (three_digits n larger (omega arith)) (record { plain = rw (plain_at (48 + (n / 10) / 10) (omega arith) (omega arith), plain_at (48 + (n / 10) % 10) (omega arith) (omega arith), plain_at (48 + n % 10) (omega arith) (omega arith)) refl; short = omega arith })
      ])
    ]

hex_plain : (d v : ℕ) → IsHexDigit d v → is_plain d ≡ true
hex_plain d v (inl h) = plain_at d (omega (arith, h)) (omega (arith, h))
hex_plain d v (inr h) = elim h.2 [
  | inl low ↦ plain_at d (omega (arith, low, h.0, h.1)) (omega (arith, low, h.0, h.1))
  | inr up ↦ plain_at d (omega (arith, up, h.0, h.1)) (omega (arith, up, h.0, h.1))
]

pub digits_plain : (digits bytes : List ℕ) → SpellsBytes digits bytes → IsPlain digits
digits_plain [] [] h = refl
digits_plain [] (b ∷ bytes) h = absurd h
digits_plain (d ∷ []) [] h = absurd h
digits_plain (d ∷ []) (b ∷ bytes) h = absurd h
digits_plain (high ∷ low ∷ digits) [] h = absurd h
digits_plain (high ∷ low ∷ digits) (b ∷ bytes) h = rw (hex_plain high (b / 16) h.0, hex_plain low (b % 16) h.1, digits_plain digits bytes h.2) refl

plain_means : (b : ℕ) → is_plain b ≡ true → (32 < b) × (b < 127)
plain_means b e = let h = both _ _ e in (ltb-true _ _ h.0, ltb-true _ _ h.1)

-- what is plain has no separator
plain_free : (c : ℕ) (f : List ℕ) → c ≤ 32 → IsPlain f → IsFree c f
plain_free c [] le e = refl
plain_free c (x ∷ f) le e =
    let a = both _ _ e in
    let m = plain_means x a.0 in
    let other : eqb x c ≡ false = grind (arith, nat_tests, m.0) in
    rw (other, plain_free c f le a.1) refl

plain_clean : (f : List ℕ) → IsPlain f → list_any is_foreign f ≡ false
plain_clean [] e = refl
plain_clean (x ∷ f) e =
    let a = both _ _ e in
    let m = plain_means x a.0 in
    let low : ltb x 32 ≡ false = grind (arith, nat_tests, m.0) in
    let high : ltb 126 x ≡ false = grind (arith, nat_tests, m.1) in
    rw (low, high, plain_clean f a.1) refl

neither : (a b : Bool) → (a || b) ≡ false → (a ≡ false) × (b ≡ false)
neither true b e = absurd cc
neither false b e = (refl, e)

any_append : (p : ℕ → Bool) (xs ys : List ℕ) → list_any p xs ≡ false → list_any p ys ≡ false → list_any p (xs ++ ys) ≡ false
any_append p [] ys e h = h
any_append p (x ∷ xs) ys e h = let a = neither (p x) (list_any p xs) e in rw (a.0, any_append p xs ys a.1 h) refl

-- ---- lines of plain fields

-- a line that can be read
pub record IsLine (line : List ℕ) : Type 0 where
  pub clean : list_any is_foreign line ≡ false
  pub whole : IsFree 10 line
  pub short : length line ≤ longest_line

clean_fields : (fs : List (List ℕ)) → AllByRecursion IsPlain fs → list_any is_foreign (line_of fs) ≡ false
clean_fields [] h = refl
clean_fields (f ∷ []) h = plain_clean f h.0
clean_fields (f ∷ g ∷ fs) h = any_append is_foreign f (32 ∷ line_of (g ∷ fs)) (plain_clean f h.0) (clean_fields (g ∷ fs) h.1)

whole_fields : (fs : List (List ℕ)) → AllByRecursion IsPlain fs → IsFree 10 (line_of fs)
whole_fields [] h = refl
whole_fields (f ∷ []) h = plain_free 10 f (omega arith) h.0
whole_fields (f ∷ g ∷ fs) h = all_append (λ b. not (eqb b 10)) f (32 ∷ line_of (g ∷ fs)) (plain_free 10 f (omega arith) h.0) (whole_fields (g ∷ fs) h.1)

pub plain_line : (fs : List (List ℕ)) → AllByRecursion IsPlain fs → length (line_of fs) ≤ longest_line → IsLine (line_of fs)
plain_line fs h short = record { clean = clean_fields fs h; whole = whole_fields fs h; short = short }

free_fields : (fs : List (List ℕ)) → AllByRecursion IsPlain fs → AllByRecursion (IsFree 32) fs
free_fields [] h = tt
free_fields (f ∷ fs) h = (plain_free 32 f (omega arith) h.0, free_fields fs h.1)

all_plain : (fs : List (List ℕ)) → AllByRecursion IsField fs → AllByRecursion IsPlain fs
all_plain [] h = tt
all_plain (f ∷ fs) h = (h.0.plain, all_plain fs h.1)

short_fields : (fs : List (List ℕ)) → AllByRecursion IsField fs → length (line_of fs) ≤ 101 * length fs
short_fields [] h = omega arith
short_fields (f ∷ []) h = omega (arith, h.0.short)
short_fields (f ∷ g ∷ fs) h =
    let rest = short_fields (g ∷ fs) h.1 in
    omega (arith, h.0.short, rest, length-append f (32 ∷ line_of (g ∷ fs)))

-- a line of a few short fields
pub record AreFields (fs : List (List ℕ)) : Type 0 where
  pub cut : fields (line_of fs) ≡ fs
  pub line : IsLine (line_of fs)

pub fields_line : (f : List ℕ) (fs : List (List ℕ)) → AllByRecursion IsField (f ∷ fs) → length fs ≤ 10 → AreFields (f ∷ fs)
fields_line f fs h few =
    let plain = all_plain (f ∷ fs) h in
    let free = free_fields (f ∷ fs) plain in
    let short = short_fields (f ∷ fs) h in
    record { cut = cut_joined 32 f fs free.0 free.1; line = plain_line (f ∷ fs) plain (omega (arith, short, few)) }

pub said_line : (w : List ℕ) (n : ℕ) → IsField w → n < 256 → AreFields (said w n)
said_line w n h lt = fields_line w (decimal n ∷ []) (h, (decimal_field n lt, tt)) (omega arith)

-- ---- reading them

-- something follows
abbrev pub IsGoing : List (List ℕ) → Type 0
IsGoing more = eqb (length more) 0 ≡ false

pub going_behind : (front : List (List ℕ)) (line : List ℕ) (more : List (List ℕ)) → IsGoing (front ++ (line ∷ more))
going_behind [] line more = grind (arith, nat_tests)
going_behind (x ∷ front) line more = grind (arith, nat_tests)

pub line_again : (k : ℕ) (line : List ℕ) (more : List (List ℕ)) → IsLine line → IsGoing more
    → next_line (record { line = k; parts = line ∷ more }) ≡ Ok (record { number = k; bytes = line; fields = fields line }, record { line = k + 1; parts = more })
unfolding next_line
line_again k line more h going = rw (line_at_is k (line ∷ more) line more refl h.clean h.short going) refl

pub fields_again : (k : ℕ) (fs more : List (List ℕ)) → AreFields fs → IsGoing more
    → next_line (record { line = k; parts = line_of fs ∷ more }) ≡ Ok (record { number = k; bytes = line_of fs; fields = fs }, record { line = k + 1; parts = more })
fields_again k fs more h going =
    line_again k (line_of fs) more h.line going
    ∙ ap (λ (cut : List (List ℕ)). Ok (record { number = k; bytes = line_of fs; fields = cut }, record { line = k + 1; parts = more })) h.cut

pub digits_again : (k n : ℕ) → n < 256 → number_in k (decimal n) ≡ Ok n
digits_again k n lt = rw (number_again n lt, number_in) refl

pub behind_again : (k n : ℕ) (word : List ℕ) → n < 256 → number_behind k word (said word n) ≡ Ok n
unfolding number_behind
behind_again k n word lt = rw ((bytes_eq-Decides word word).1 refl) (digits_again k n lt)

pub numbered_again : (k n : ℕ) (w : List ℕ) (more : List (List ℕ)) → IsField w → n < 256 → IsGoing more
    → numbered w (record { line = k; parts = line_of (said w n) ∷ more }) ≡ Ok (record { line = k; value = n }, record { line = k + 1; parts = more })
unfolding numbered
numbered_again k n w more h lt going = rw (fields_again k (said w n) more (said_line w n h lt) going, behind_again k n w lt) refl

-- a text's parts are its lines, and nothing
pub parts_again : (ls : List (List ℕ)) → AllByRecursion IsLine ls → parts (text_of ls) ≡ ls ++ [] ∷ []
parts_again [] h = refl
parts_again (l ∷ ls) h =
    ap parts (append_assoc l (10 ∷ []) (text_of ls)) ∙ cut_front (λ b. eqb b 10) l 10 (text_of ls) h.0.whole refl ∙ ap (λ (r : List (List ℕ)). l ∷ r) (parts_again ls h.1)
