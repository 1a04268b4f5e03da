-- The laws of reading a file of roots that was cut.
use Rattle.std.proofs.Common.{◌≡◌, ◌≤◌, ◌+◌, ◌*◌, ◌/◌, ◌^◌, ℕ, zero, suc, true, List, [], ◌∷◌, ◌++◌, length, take, drop, Ok, refl, sym, ap, ◌∙◌, append_assoc, arith}
use Rattle.std.specs.Prelude.{nat_le}
use Rattle.std.proofs.lemmas.Bool.{leb-true, le-leb}
use Rattle.std.proofs.lemmas.List.{length-append, length-take, length-drop, take-append-drop}
use Rattle.std.proofs.lemmas.List.Concat.{flat_map-cons}
use Rattle.std.proofs.lemmas.Nat.{div-mul-add}
use Rattle.gen_types.specs.Reading.{◌>>=◌, check}
use Rattle.gen_types.proofs.ByteFields.{IsBytes}
use Rattle.gen_types.proofs.Steps.{after, after_check, at_end}
use Rattle.gen_identity.proofs.Spelled.{length-siblings}
use Rattle.gen_enroll.specs.declared.heads.RootsHead.{RootsHead}
use Rattle.gen_enroll.specs.declared.roots_fault.RootsFault.{RootsFault}
use Rattle.gen_enroll.specs.declared.roots_fault.RootsFault.TheVariants as faults
use Rattle.gen_enroll.specs.RootFiles.{AreWide, root_length, head_spelling, roots_spelling}
use Rattle.gen_enroll.specs.RootReading.{head_at}
use Rattle.gen_enroll.specs.CutFiles.{IsCutFile, cut_file}
use Rattle.gen_enroll.proofs.Spelled.{same, heads_read}

-- bytes as so many roots, and what is left
record Parts (whole : ℕ) (bytes : List ℕ) : Type 0 where
  roots : List (List ℕ)
  part : List ℕ
  parts : bytes ≡ roots_spelling roots ++ part
  all : length roots ≡ whole
  wide : AreWide roots
  left : length bytes ≡ root_length * whole + length part

parts_of : (whole : ℕ) (bytes : List ℕ) → root_length * whole ≤ length bytes → Parts whole bytes
parts_of zero bytes within = record { roots = []; part = bytes; parts = refl; all = refl; wide = tt; left = omega arith }
parts_of (suc whole) bytes within =
    let first = take root_length bytes in
    let rest = drop root_length bytes in
    let others = parts_of whole rest (omega (arith, within, length-drop root_length bytes)) in
    let wide : length first ≡ root_length = omega (arith, within, length-take root_length bytes) in
    record {
      roots = first ∷ others.roots;
      part = others.part;
      parts = sym (take-append-drop root_length bytes)
          ∙ ap (λ (t : List ℕ). first ++ t) others.parts
          ∙ sym (append_assoc first (roots_spelling others.roots) others.part)
          ∙ ap (λ (t : List ℕ). t ++ others.part) (sym (flat_map-cons same first others.roots));
      all = ap suc others.all;
      wide = (wide, others.wide);
      left = omega (arith, within, others.left, length-drop root_length bytes);
    }

-- what is told of a cut file holds of it
pub cut_found : (bytes : List ℕ) (x : RootsHead × ℕ) → IsBytes bytes → cut_file bytes ≡ Ok x → IsCutFile bytes x.0 x.1
unfolding cut_file
cut_found bytes x are e =
    after (head_at bytes) (λ head. check (nat_le (length head.1) (root_length * 2 ^ head.0.levels)) faults.LeftOver >>= λ within. Ok (head.0, length head.1 / root_length)) x e (λ head r0 e0.
    after_check (nat_le (length head.1) (root_length * 2 ^ head.0.levels)) faults.LeftOver (λ within. Ok (head.0, length head.1 / root_length)) x e0 (λ within e1.
    let first = heads_read.takes bytes head are r0 in
    let whole = length head.1 / root_length in
    let p = parts_of whole head.1 (omega arith) in
    let room : length head.1 ≤ root_length * 2 ^ head.0.levels = leb-true _ _ within in
    at_end {F = RootsFault} (λ (y : RootsHead × ℕ). IsCutFile bytes y.0 y.1) (head.0, whole) x e1 (record {
      few = first.1;
      roots = p.roots;
      part = p.part;
      parts = first.0.parts ∙ ap (λ (t : List ℕ). head_spelling head.0 ++ t) p.parts;
      count = p.all;
      wide = p.wide;
      short = omega (arith, p.left);
      room = omega (arith, p.left, room);
    })))

-- a cut file is told
pub cut_again : (bytes : List ℕ) (head : RootsHead) (whole : ℕ) → IsCutFile bytes head whole → cut_file bytes ≡ Ok (head, whole)
unfolding cut_file
cut_again bytes head whole is =
    let rest = roots_spelling is.roots ++ is.part in
    let read : head_at bytes ≡ Ok (head, rest) = ap head_at is.parts ∙ heads_read.again head rest is.few in
    let long : length rest ≡ whole * root_length + length is.part = omega (arith, length-append (roots_spelling is.roots) is.part, length-siblings is.roots is.wide, is.count) in
    let within : nat_le (length rest) (root_length * 2 ^ head.levels) ≡ true = le-leb _ _ (omega (arith, long, is.room)) in
    let told : length rest / root_length ≡ whole = ap (λ (n : ℕ). n / root_length) long ∙ div-mul-add whole root_length (length is.part) is.short in
    rw (read, within, told) refl
