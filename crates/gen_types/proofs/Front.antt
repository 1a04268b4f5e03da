-- What a reader of bytes promises, proved once for every format: from the two laws of reading it, Reads.
use Rattle.std.proofs.Common.{◌≡◌, ℕ, ◌+◌, ◌-◌, ◌≤◌, List, length, Result, Ok, refl, sym, ap, ◌∙◌, arith}
use Rattle.std.specs.Prelude.{IfOk}
use Rattle.std.proofs.lemmas.List.{length-append}
use Rattle.gen_types.specs.declared.reading.ReadError.{ReadError}
use Rattle.gen_types.specs.Spelled.{StandsInFront, IsReadFrom, HasOneSpelling, counted, IsRead}
use Rattle.gen_types.proofs.ByteFields.{IsBytes}
use Rattle.gen_types.proofs.Laws.{found_by, only_by}
use Rattle.gen_types.proofs.ManyFields.{Reads}
use Rattle.gen_types.proofs.Steps.{after, at_end, ok_is}

-- the bytes after a value are fewer than all, or as many
pub front_shorter : {A F : Type 0} (read : List ℕ → Result (A × List ℕ) F) (spell : A → List ℕ) (Fits : A → Type 0) → Reads read spell Fits → (bytes : List ℕ) (value : A) (rest : List ℕ) → IsBytes bytes → read bytes ≡ Ok (value, rest) → length rest ≤ length bytes
front_shorter read spell Fits reads bytes value rest are e =
    let t = reads.takes bytes (value, rest) are e in
    omega (arith, ap length t.0.parts ∙ length-append (spell value) rest)

-- what is read of bytes stands in front of them, with its length
pub front_read : {A F : Type 0} (read : List ℕ → Result (A × List ℕ) F) (spell : A → List ℕ) (Fits : A → Type 0) → Reads read spell Fits → (bytes : List ℕ) (x : A × ℕ) → IsBytes bytes → counted read bytes ≡ Ok x → IsReadFrom Fits spell bytes x
front_read {A} {F} read spell Fits reads bytes x are e =
    after (read bytes) (λ y. Ok (y.0, length bytes - length y.1)) x e (λ y r e0.
    let t = reads.takes bytes y are r in
    let total : length bytes ≡ length (spell y.0) + length y.1 = ap length t.0.parts ∙ length-append (spell y.0) y.1 in
    at_end {F = F} (IsReadFrom Fits spell bytes) (y.0, length bytes - length y.1) x e0 (record {
      stands = record { fits = t.1; rest = y.1; parts = t.0.parts };
      counted = omega (arith, total);
    }))

-- what stands in front of bytes is read of them
pub front_again : {A F : Type 0} (read : List ℕ → Result (A × List ℕ) F) (spell : A → List ℕ) (Fits : A → Type 0) → Reads read spell Fits → (bytes : List ℕ) (value : A) → StandsInFront Fits spell bytes value → counted read bytes ≡ Ok (value, length (spell value))
front_again {A} read spell Fits reads bytes value stands =
    let r : read bytes ≡ Ok (value, stands.rest) = ap read stands.parts ∙ reads.again value stands.rest stands.fits in
    let total : length bytes ≡ length (spell value) + length stands.rest = ap length stands.parts ∙ length-append (spell value) stands.rest in
    let taken : length bytes - length stands.rest ≡ length (spell value) = omega (arith, total) in
    rw (r, taken) refl

-- the clause `found` of a call that reads exactly so
pub front_found : {A F : Type 0} (read : List ℕ → Result (A × List ℕ) F) (spell : A → List ℕ) (Fits : A → Type 0) → Reads read spell Fits → (bytes : List ℕ) (result : Result (A × ℕ) (ReadError F)) → IsBytes bytes → IsRead result (counted read bytes) → IfOk result (IsReadFrom Fits spell bytes)
front_found read spell Fits reads bytes result are given = found_by (λ x. x) result (counted read bytes) (IsReadFrom Fits spell bytes) (λ x e. front_read read spell Fits reads bytes x are e) given

-- and its clause `only`
pub front_only : {A F : Type 0} (read : List ℕ → Result (A × List ℕ) F) (spell : A → List ℕ) (Fits : A → Type 0) → Reads read spell Fits → (bytes : List ℕ) (result : Result (A × ℕ) (ReadError F)) → IsRead result (counted read bytes) → (value : A) → StandsInFront Fits spell bytes value → IsRead result (Ok (value, length (spell value)))
front_only read spell Fits reads bytes result given value stands = only_by (λ x. x) result (counted read bytes) (value, length (spell value)) (front_again read spell Fits reads bytes value stands) given

-- a format that can be read has one spelling for each value
pub one_spelling_by : {A F : Type 0} (read : List ℕ → Result (A × List ℕ) F) (spell : A → List ℕ) (Fits : A → Type 0) → Reads read spell Fits → HasOneSpelling Fits spell
one_spelling_by {A} {F} read spell Fits reads x y rest more fits fits' e =
    let same = ok_is {F = F} (x, rest) (y, more) (sym (reads.again x rest fits) ∙ ap read e ∙ reads.again y more fits') in
    (ap (λ (p : A × List ℕ). p.0) same, ap (λ (p : A × List ℕ). p.1) same)
