-- A text to which pieces are appended one after another.
use Rattle.std.proofs.Common.{◌≡◌, ◌∙◌, ◌++◌, ℕ, List, Result, Ok, Err, OnOk, ap, append_assoc, if◌then◌else◌}
use Rattle.std.specs.Result.{is_ok}

-- what the last call appends stands behind what the first one appended
pub behind : {E : Type 0} (r : Result (Unit {0}) E) (old first mid others new : List ℕ) → mid ≡ old ++ first
    → OnOk r (new ≡ mid ++ others) → OnOk r (new ≡ old ++ (first ++ others))
behind (Ok done) old first mid others new before after =
    (after ∙ ap (λ (xs : List ℕ). xs ++ others) before) ∙ append_assoc old first others
behind (Err e) old first mid others new before after = tt

-- two pieces
pub both : (old first second mid new : List ℕ) → mid ≡ old ++ first → new ≡ mid ++ second → new ≡ old ++ (first ++ second)
both old first second mid new before after = (after ∙ ap (λ (xs : List ℕ). xs ++ second) before) ∙ append_assoc old first second

-- what the last call leaves, if it appended its text
pub ended : {E : Type 0} (r : Result (Unit {0}) E) (new whole old : List ℕ) → new ≡ (if is_ok r then whole else old) → OnOk r (new ≡ whole)
ended (Ok done) new whole old is = is
ended (Err e) new whole old is = tt

-- pieces of which the second is appended with the third
pub five : {E : Type 0} (r : Result (Unit {0}) E) (old a b c d e f one two three four new : List ℕ) → one ≡ old ++ a → two ≡ one ++ (b ++ c)
    → three ≡ two ++ d → four ≡ three ++ e → OnOk r (new ≡ four ++ f)
    → OnOk r (new ≡ old ++ (a ++ (b ++ (c ++ (d ++ (e ++ f))))))
five r old a b c d e f one two three four new first second third fourth last =
    behind r old a one (b ++ (c ++ (d ++ (e ++ f)))) new first
    (rw (← append_assoc b c (d ++ (e ++ f)))
    (behind r one (b ++ c) two (d ++ (e ++ f)) new second
    (behind r two d three (e ++ f) new third (behind r three e four f new fourth last))))
