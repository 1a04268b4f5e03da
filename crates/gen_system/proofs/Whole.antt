-- Bytes that are one value and nothing else: what was read is what they spell, and what they spell is read.
use Rattle.std.proofs.Common.{◌≡◌, ℕ, eqb, List, [], ◌∷◌, ◌++◌, length, Result, Ok, refl, sym, ap, ◌∙◌, arith}
use Rattle.std.proofs.lemmas.Bool.{eqb-true}
use Rattle.std.proofs.lemmas.List.{append-nil}
use Rattle.gen_types.specs.Reading.{◌>>=◌, check}
use Rattle.gen_types.specs.Spelled.{Spells}
use Rattle.gen_types.proofs.ByteFields.{IsBytes}
use Rattle.gen_types.proofs.ManyFields.{Reads}
use Rattle.gen_types.proofs.Steps.{after, after_check, at_end}

-- a value, and nothing after it
abbrev pub alone : {A F : Type 0} → (List ℕ → Result (A × List ℕ) F) → F → List ℕ → Result A F
alone read over bytes = read bytes >>= λ x. check (eqb (length x.1) 0) over >>= λ end. Ok x.0

none_left : (rest : List ℕ) → length rest ≡ 0 → rest ≡ []
none_left [] e = refl
none_left (b ∷ rest) e = absurd (omega (arith, e))

pub alone_found : {A F : Type 0} (read : List ℕ → Result (A × List ℕ) F) (spell : A → List ℕ) (Fits : A → Type 0) (over : F) → Reads read spell Fits → (bytes : List ℕ) (y : A) → IsBytes bytes → alone read over bytes ≡ Ok y → Spells Fits spell bytes y
alone_found {A} {F} read spell Fits over reads bytes y are e =
    after (read bytes) (λ x. check (eqb (length x.1) 0) over >>= λ end. Ok x.0) y e (λ x r0 e0.
    after_check (eqb (length x.1) 0) over (λ end. Ok x.0) y e0 (λ end e1.
    let t = reads.takes bytes x are r0 in
    let nothing = none_left x.1 (eqb-true _ _ end) in
    at_end {F = F} (Spells Fits spell bytes) x.0 y e1 (record {
      fits = t.1;
      spelled = t.0.parts ∙ ap (λ (rest : List ℕ). spell x.0 ++ rest) nothing ∙ append-nil (spell x.0);
    })))

pub alone_only : {A F : Type 0} (read : List ℕ → Result (A × List ℕ) F) (spell : A → List ℕ) (Fits : A → Type 0) (over : F) → Reads read spell Fits → (bytes : List ℕ) (y : A) → Spells Fits spell bytes y → alone read over bytes ≡ Ok y
alone_only read spell Fits over reads bytes y spells =
    let read_is : read bytes ≡ Ok (y, []) = ap read (spells.spelled ∙ sym (append-nil (spell y))) ∙ reads.again y [] spells.fits in
    rw read_is refl
