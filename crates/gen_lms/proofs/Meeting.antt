-- Chains that meet, and the values of one chain among those of all.
use Rattle.std.proofs.Common.{bytes_eq, ◌≡◌, ◌≢◌, ◌≤◌, ◌<◌, ◌⊎◌, inl, inr, ℕ, zero, suc, ◌+◌, ◌-◌, ◌*◌, Bool, true, false, List, [], ◌++◌, length, slice_index, drop, refl, sym, ap, ◌∙◌, append_assoc, length-append, arith}
use Rattle.std.proofs.lemmas.Bool.{cases_lt}
use Rattle.std.proofs.lemmas.Bool.Decides.{not_from_Decides}
use Rattle.std.proofs.lemmas.List.{take_at, drop_at, append_cancel_left, length-drop, length-take-le}
use Rattle.std.proofs.lemmas.Slice.Eq.{bytes_eq-Decides}
use Rattle.sha2.specs.Sha256.{sha256}
use Rattle.sha2.proofs.Facts256.{length-sha256}
use Rattle.gen_lmots.specs.declared.places.KeyPlace.{KeyPlace}
use Rattle.gen_lmots.specs.Chains.{chained}
use Rattle.gen_lmots.specs.Coefficients.{steps_signed}
use Rattle.gen_lmots.specs.Keys.{ends, public_key, secret}
use Rattle.gen_lmots.specs.Signatures.{key_led, led_ends, value_at}
use Rattle.gen_lmots.specs.Strings.{d_pblc, front, u8str, u16str}
use Rattle.gen_lmots.proofs.Walked.{chained-suc, chained-sum, chained-zero, coefficient-le, ends-suc, led_ends-suc, led_ends-zero, ends-zero, length-chained}
use Rattle.gen_lms.specs.Forging.{GivesAway, StepsCollide, key_text, step_text}
use Rattle.gen_lms.proofs.Digits.{fewer_somewhere}

-- lists of numbers are equal or not
pub same_or_not : (a b : List ℕ) → (a ≡ b) ⊎ (a ≢ b)
same_or_not a b = by (bytes_eq a b) refl
  where
    by : (t : Bool) → bytes_eq a b ≡ t → (a ≡ b) ⊎ (a ≢ b)
    by true e = inl ((bytes_eq-Decides a b).0 e)
    by false e = inr (not_from_Decides (bytes_eq a b) (bytes_eq-Decides a b) e)

-- ---- chains that meet

texts_differ : (place : KeyPlace) (i j : ℕ) (u v : List ℕ) → u ≢ v → step_text place i j u ≢ step_text place i j v
texts_differ place i j u v differ same =
    differ (append_cancel_left (u8str j) u v (append_cancel_left (u16str i) (u8str j ++ u) (u8str j ++ v) (append_cancel_left (front place) (u16str i ++ (u8str j ++ u)) (u16str i ++ (u8str j ++ v)) same)))

-- two values that lead to one value are one, or two texts of a step collide
pub chains_meet : (place : KeyPlace) (i j n : ℕ) (u v : List ℕ) → chained place i j n u ≡ chained place i j n v → (u ≡ v) ⊎ StepsCollide place
chains_meet place i j zero u v same = inl (sym (chained-zero place i j u) ∙ same ∙ chained-zero place i j v)
chains_meet place i j (suc n) u v same =
    let a = chained place i j n u in
    let b = chained place i j n v in
    elim (same_or_not a b) [
      | inl before ↦ chains_meet place i j n u v before
      | inr differ ↦ inr (i, j + n, a, b, (texts_differ place i (j + n) a b differ, sym (chained-suc place i j n u) ∙ same ∙ chained-suc place i j n v))
    ]

-- ---- the values of one chain

-- the value that stands after others
value-at : (n : ℕ) (before value rest : List ℕ) → length before ≡ 32 * n → length value ≡ 32 → value_at (before ++ (value ++ rest)) n ≡ value
value-at n before value rest e s = rw (drop_at before (value ++ rest) (32 * n) e, take_at value rest 32 s) refl

-- of what grows by 32 numbers for each chain, the values of one chain
pub one_of : (whole : ℕ → List ℕ) (element : ℕ → List ℕ) → whole 0 ≡ [] → ((n : ℕ) → whole (suc n) ≡ whole n ++ element n)
    → (n : ℕ) → ((i : ℕ) → i < n → length (element i) ≡ 32) → (length (whole n) ≡ 32 * n) × ((i : ℕ) → i < n → (rest : List ℕ) → value_at (whole n ++ rest) i ≡ element i)
one_of whole element none grows zero wide = (ap length none, λ i h. absurd (omega arith))
one_of whole element none grows (suc n) wide =
    let before = one_of whole element none grows n (λ i h. wide i (omega arith)) in
    let width = wide n (omega arith) in
    let all = length-append (whole n) (element n) in
    let len : length (whole (suc n)) ≡ 32 * suc n = rw (grows n) (omega (arith, all, before.0, width)) in (
      len,
      λ i h rest.
          let cut : whole (suc n) ++ rest ≡ whole n ++ (element n ++ rest) = rw (grows n) (append_assoc (whole n) (element n) rest) in
          let one : value_at (whole n ++ (element n ++ rest)) i ≡ element i = elim (cases_lt i n) [
            | inl below ↦ before.1 i below (element n ++ rest)
            | inr last ↦
                let e : i ≡ n = omega arith in
                rw e (value-at n (whole n) (element n) rest before.0 width)
          ] in
          ap (λ (x : List ℕ). value_at x i) cut ∙ one,
    )

led_ends-one : (place : KeyPlace) (q values : List ℕ) → length values ≡ 2144 → (i : ℕ) → i < 67
    → value_at (led_ends place q values 67 ++ []) i ≡ chained place i (steps_signed q i) (15 - steps_signed q i) (value_at values i)
led_ends-one place q values len i h =
    let element = λ (n : ℕ). chained place n (steps_signed q n) (15 - steps_signed q n) (value_at values n) in
    let wide : (n : ℕ) → n < 67 → length (element n) ≡ 32 = λ n below.
    let behind : length (drop (32 * n) values) ≡ length values - 32 * n = length-drop (32 * n) values in
    length-chained place n (steps_signed q n) (15 - steps_signed q n) (value_at values n) (length-take-le 32 (drop (32 * n) values) (omega (arith, behind, len))) in
    (one_of (led_ends place q values) element (led_ends-zero place q values) (led_ends-suc place q values) 67 wide).1 i h []

ends-one : (seed : List ℕ) (place : KeyPlace) (i : ℕ) → i < 67 → value_at (ends seed place 67 ++ []) i ≡ chained place i 0 15 (secret seed place i)
ends-one seed place i h =
    let element = λ (n : ℕ). chained place n 0 15 (secret seed place n) in
    let wide : (n : ℕ) → n < 67 → length (element n) ≡ 32 = λ n below. length-chained place n 0 15 (secret seed place n) (length-sha256 _) in
    (one_of (ends seed place) element (ends-zero seed place) (ends-suc seed place) 67 wide).1 i h []

-- ---- what another hash gives away

key_texts_differ : (place : KeyPlace) (a b : List ℕ) → a ≢ b → key_text place a ≢ key_text place b
key_texts_differ place a b differ same =
    differ (append_cancel_left (u16str d_pblc) a b (append_cancel_left (front place) (u16str d_pblc ++ a) (u16str d_pblc ++ b) same))

keys_meet : (seed q values : List ℕ) (place : KeyPlace) → key_led place q values ≡ public_key seed place
    → sha256 (key_text place (led_ends place q values 67)) ≡ sha256 (key_text place (ends seed place 67))
unfolding key_led public_key
keys_meet seed q values place same = same

-- in a chain in which fewer steps are taken than the holder took
chain_given : (seed signed q values : List ℕ) (place : KeyPlace) (i : ℕ) → i < 67 → steps_signed q i < steps_signed signed i
    → chained place i (steps_signed q i) (15 - steps_signed q i) (value_at values i) ≡ chained place i 0 15 (secret seed place i)
    → GivesAway seed place signed q values
chain_given seed signed q values place i inside fewer same =
    let a = steps_signed q i in
    let b = steps_signed signed i in
    let y = value_at values i in
    let x = secret seed place i in
    let few : b ≤ 15 = coefficient-le _ i in
    let at : a + (b - a) ≡ b = omega (arith, fewer) in
    let rest : b - a + (15 - b) ≡ 15 - a = omega (arith, fewer, few) in
    let none : 0 + b ≡ b = omega arith in
    let all : b + (15 - b) ≡ 15 = omega (arith, few) in
    let theirs : chained place i b (15 - b) (chained place i a (b - a) y) ≡ chained place i a (15 - a) y = rw (at, rest) at (chained-sum place i a (b - a) (15 - b) y) in
    let ours : chained place i b (15 - b) (chained place i 0 b x) ≡ chained place i 0 15 x = rw (none, all) at (chained-sum place i 0 b (15 - b) x) in
    elim (chains_meet place i b (15 - b) (chained place i a (b - a) y) (chained place i 0 b x) (theirs ∙ same ∙ sym ours)) [
      | inl before ↦ inl (i, record { inside = inside; fewer = fewer; leads = before })
      | inr collide ↦ inr (inl collide)
    ]

pub gives_away : (seed signed q values : List ℕ) (place : KeyPlace) → length q ≡ 32 → length signed ≡ 32
    → ((i : ℕ) → i < 32 → slice_index q i < 256) → ((i : ℕ) → i < 32 → slice_index signed i < 256) → q ≢ signed
    → length values ≡ 2144 → key_led place q values ≡ public_key seed place → GivesAway seed place signed q values
gives_away seed signed q values place lq ls bq bs differ lv same =
    let led = led_ends place q values 67 in
    let own = ends seed place 67 in
    elim (same_or_not led own) [
      | inr apart ↦ inr (inr (key_texts_differ place led own apart, keys_meet seed q values place same))
      | inl equal ↦
          let found = fewer_somewhere q signed lq ls bq bs differ in
          let i = found.0 in
          let end = sym (led_ends-one place q values lv i found.1) ∙ ap (λ (x : List ℕ). value_at (x ++ []) i) equal ∙ ends-one seed place i found.1 in
          chain_given seed signed q values place i found.1 found.2 end
    ]
