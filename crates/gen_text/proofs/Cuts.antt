-- A text that is cut at its first line feed.
use Rattle.std.proofs.Common.{◌≡◌, ℕ, ◌+◌, ◌<◌, ◌≤◌, Bool, true, false, cond, not, ltb, eqb, List, [], ◌∷◌, length, take, drop, Some, None, Ok, refl, ap, arith}
use Rattle.gen_text.specs.Text.{is_foreign, parts}
use Rattle.gen_text.specs.LineReading.{line_at}
use Rattle.std.specs.List.{list_any, join_with_byte, slice_split, onto_first, position, position_or_len}
use Rattle.std.proofs.lemmas.Bool.{ltb-true, ltb-false, le-ltb}
use Rattle.std.proofs.lemmas.Bool.Decides.{nat_tests}
use Rattle.std.proofs.lemmas.List.Splits.{slice_split_first, length-slice_split, join_with_byte-slice_split}

cond_is_some : {A : Type 0} (b : Bool) (x y : A) → cond b (Some x) None ≡ Some y → (b ≡ true) × (x ≡ y)
cond_is_some true x y e = (refl, cc)
cond_is_some false x y e = absurd cc

cond_is_none : {A : Type 0} (b : Bool) (x : A) → cond b (Some x) None ≡ None → b ≡ false
cond_is_none true x e = absurd cc
cond_is_none false x e = refl

past : (p : ℕ → Bool) (xs : List ℕ) → length xs ≤ position_or_len p xs → slice_split p xs ≡ xs ∷ []
past p [] h = refl
past p (x ∷ xs) h =
    (elim (p x) as (λ b. length (x ∷ xs) ≤ cond (not b) (1 + position_or_len p xs) 0 → cond b ([] ∷ slice_split p xs) (onto_first x (slice_split p xs)) ≡ (x ∷ xs) ∷ []) [
      | true ↦ λ le. absurd (omega arith)
      | false ↦ λ le. ap (onto_first x) (past p xs (omega arith))
    ]) h

pub no_cut : (p : ℕ → Bool) (xs : List ℕ) → position p xs ≡ None → slice_split p xs ≡ xs ∷ []
no_cut p xs e = past p xs (ltb-false _ _ (cond_is_none _ _ e))

pub cut_at : (p : ℕ → Bool) (xs : List ℕ) (i : ℕ) → position p xs ≡ Some i → (i < length xs) × (slice_split p xs ≡ take i xs ∷ slice_split p (drop (i + 1) xs))
cut_at p xs i e =
    let found = cond_is_some (ltb (position_or_len p xs) (length xs)) (position_or_len p xs) i e in
    let lt : position_or_len p xs < length xs = ltb-true _ _ found.0 in
    let first : slice_split p xs ≡ take (position_or_len p xs) xs ∷ slice_split p (drop (position_or_len p xs + 1) xs) = slice_split_first p xs 0 lt in
    (omega (arith, found.1), rw found.1 at first)

-- a split list has a part
pub has_part : (p : ℕ → Bool) (xs : List ℕ) → eqb (length (slice_split p xs)) 0 ≡ false
has_part p xs = grind (arith, nat_tests, length-slice_split p xs)

pub line_at_is : (k : ℕ) (ps : List (List ℕ)) (line : List ℕ) (more : List (List ℕ)) → ps ≡ line ∷ more → list_any is_foreign line ≡ false → length line ≤ 600000 → eqb (length more) 0 ≡ false → line_at k ps ≡ Ok (line, more)
line_at_is k ps line more e clean short going =
    let fits : ltb 600000 (length line) ≡ false = le-ltb _ _ short in
    rw (e, clean, fits, going) refl

pub joined : (text : List ℕ) → join_with_byte 10 (parts text) ≡ text
joined text = join_with_byte-slice_split 10 text
