-- What a field reader took stood in front, whatever the numbers of the list are: for a byte, for bytes, and for many fields.
use Rattle.std.proofs.Common.{◌≡◌, ℕ, zero, suc, ◌≤◌, List, [], ◌∷◌, ◌++◌, length, take, drop, Result, Ok, refl, sym, ap, subst, ◌∙◌, append_assoc, arith, ltb}
use Rattle.std.specs.List.{flat_map, AllByRecursion}
use Rattle.std.proofs.lemmas.List.{length-take, take-append-drop, drop_at}
use Rattle.std.proofs.lemmas.List.Concat.{flat_map-cons}
use Rattle.std.proofs.lemmas.Bool.{ltb-false}
use Rattle.gen_types.specs.Reading.{◌>>=◌}
use Rattle.gen_types.specs.Bytes.{byte_at, bytes_at, many_at}
use Rattle.gen_types.proofs.ByteFields.{IsBytes, IsBytes-drop, Takes}
use Rattle.gen_types.proofs.Steps.{after, at_end, ok_is, guard_ok}

pub byte_parts : {F : Type 0} (short : F) (bytes : List ℕ) (b : ℕ) (rest : List ℕ) → byte_at short bytes ≡ Ok (b, rest) → bytes ≡ b ∷ rest
byte_parts short [] b rest e = absurd cc
byte_parts {F} short (x ∷ xs) b rest e =
    let same = ok_is {F = F} (x, xs) (b, rest) e in
    let x-is : x ≡ b = ap (λ (p : ℕ × List ℕ). p.0) same in
    let xs-is : xs ≡ rest = ap (λ (p : ℕ × List ℕ). p.1) same in
    rw (x-is, xs-is) refl

pub bytes_parts : {F : Type 0} (short : F) (n : ℕ) (bytes text rest : List ℕ) → bytes_at short n bytes ≡ Ok (text, rest) → (bytes ≡ text ++ rest) × (length text ≡ n)
bytes_parts short n bytes text rest e =
    let g = guard_ok (ltb (length bytes) n) short (take n bytes, drop n bytes) (text, rest) e in
    let long : n ≤ length bytes = ltb-false _ _ g.0 in
    let text-is : take n bytes ≡ text = ap (λ (p : List ℕ × List ℕ). p.0) g.1 in
    let rest-is : drop n bytes ≡ rest = ap (λ (p : List ℕ × List ℕ). p.1) g.1 in
    (rw (← text-is, ← rest-is) (sym (take-append-drop n bytes)), rw (← text-is) (omega (arith, length-take n bytes)))

-- a reader gives what stands in front, and what fits
abbrev pub ReadsParts : {A F : Type 0} → (List ℕ → Result (A × List ℕ) F) → (A → List ℕ) → (A → Type 0) → Type 0
ReadsParts {A} read spell Fits = (bytes : List ℕ) (x : A × List ℕ) → read bytes ≡ Ok x → (bytes ≡ spell x.0 ++ x.1) × Fits x.0

pub record ManyParts {A : Type 0} (spell : A → List ℕ) (Fits : A → Type 0) (bytes : List ℕ) (n : ℕ) (x : List A × List ℕ) : Type 0 where
  pub parts : bytes ≡ flat_map spell x.0 ++ x.1
  pub count_is : length x.0 ≡ n
  pub fit : AllByRecursion Fits x.0

pub many_parts : {A F : Type 0} (read : List ℕ → Result (A × List ℕ) F) (spell : A → List ℕ) (Fits : A → Type 0) → ReadsParts read spell Fits → (n : ℕ) (bytes : List ℕ) (x : List A × List ℕ) → many_at read n bytes ≡ Ok x → ManyParts spell Fits bytes n x
unfolding many_at
many_parts {F = F} read spell Fits reads zero bytes x e = at_end {F = F} (ManyParts spell Fits bytes 0) ([], bytes) x e (record { parts = refl; count_is = refl; fit = tt })
many_parts {F = F} read spell Fits reads (suc n) bytes x e =
    after (read bytes) (λ first. many_at read n first.1 >>= λ others. Ok (first.0 ∷ others.0, others.1)) x e (λ first r0 e0.
    after (many_at read n first.1) (λ others. Ok (first.0 ∷ others.0, others.1)) x e0 (λ others r1 e1.
    let t0 = reads bytes first r0 in
    let t1 = many_parts read spell Fits reads n first.1 others r1 in
    at_end {F = F} (ManyParts spell Fits bytes (suc n)) (first.0 ∷ others.0, others.1) x e1 (record {
      parts = t0.0 ∙ ap (λ (t : List ℕ). spell first.0 ++ t) t1.parts ∙ sym (append_assoc (spell first.0) (flat_map spell others.0) others.1) ∙ ap (λ (t : List ℕ). t ++ others.1) (sym (flat_map-cons spell first.0 others.0));
      count_is = ap suc t1.count_is;
      fit = (t0.1, t1.fit);
    })))

-- and where the list is one of bytes, so is what is left
pub takes_by : (bytes text rest : List ℕ) → IsBytes bytes → bytes ≡ text ++ rest → Takes bytes text rest
takes_by bytes text rest are parts = record {
  parts = parts;
  rest_fits = subst IsBytes (ap (drop (length text)) parts ∙ drop_at text rest (length text) refl) (IsBytes-drop (length text) bytes are);
}
