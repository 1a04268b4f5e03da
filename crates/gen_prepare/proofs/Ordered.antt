-- Logs in ascending order of their generals, gathered one after another.
use Rattle.std.proofs.Common.{◌≡◌, ℕ, ◌+◌, Bool, true, false, eqb, List, [], ◌∷◌, ◌++◌, cond, refl, sym, ap, ◌∙◌, zero-add}
use Rattle.std.specs.List.{flat_map, range_with_len}
use Rattle.std.proofs.lemmas.Grind.{flat_map-append}
use Rattle.std.proofs.lemmas.List.{append_assoc, append-nil}
use Rattle.gen_types.specs.Members.{range_more}
use Rattle.gen_log.specs.Writing.{LogBytes}
use Rattle.gen_audit.specs.Bundle.{exhibits_of}

-- the first log, and those behind it
first_then : (yes : Bool) (x : LogBytes) (others : List LogBytes) → cond yes (x ∷ others) others ≡ cond yes (x ∷ []) [] ++ others
first_then true x others = refl
first_then false x others = refl

-- a log more was looked at
pub taken_off : (had : List LogBytes) (x : LogBytes) (xs : List LogBytes) (general : ℕ)
    → (had ++ exhibits_of (x ∷ []) general) ++ exhibits_of xs general ≡ had ++ exhibits_of (x ∷ xs) general
taken_off had x xs general =
    append_assoc had (exhibits_of (x ∷ []) general) (exhibits_of xs general)
    ∙ ap (λ (t : List LogBytes). had ++ t) (sym (first_then (eqb x.general general) x (exhibits_of xs general)))

-- those of a general more are had
pub one_more : (f : ℕ → List LogBytes) (n : ℕ) → flat_map f (range_with_len 0 n) ++ f n ≡ flat_map f (range_with_len 0 (n + 1))
one_more f n =
    let grown : range_with_len 0 (n + 1) ≡ range_with_len 0 n ++ n ∷ [] = range_more 0 n ∙ ap (λ j. range_with_len 0 n ++ j ∷ []) (zero-add n) in
    sym (ap (flat_map f) grown ∙ flat_map-append f (range_with_len 0 n) (n ∷ []) ∙ ap (λ (xs : List LogBytes). flat_map f (range_with_len 0 n) ++ xs) (append-nil (f n)))
