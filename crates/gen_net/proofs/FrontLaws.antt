-- A mark and a header: what was read is what stood there, and what was written is read again.
use Rattle.std.proofs.Common.{◌≡◌, ℕ, ◌^◌, true, eqb, List, ◌∷◌, ◌++◌, Ok, refl, sym, ap, subst, ◌∙◌, append_assoc, arith, inl, inr}
use Rattle.std.specs.Int.{w32, to_be_bytes}
use Rattle.std.proofs.lemmas.Bool.{eqb-true, eq-eqb, ne_eqb}
use Rattle.gen_types.specs.Reading.{◌>>=◌, check, map_fault}
use Rattle.gen_types.specs.Bytes.{byte_at, number_at}
use Rattle.gen_types.proofs.Lists.{bool_cases}
use Rattle.gen_types.proofs.Steps.{ok_is, after, after_check, at_end, mapped_ok}
use Rattle.gen_types.proofs.ByteFields.{IsBytes, Takes, Takes-then, number_takes, number_again, wide32}
use Rattle.gen_types.proofs.ManyFields.{Reads}
use Rattle.gen_net.specs.declared.fault.HeaderFault.TheVariants as rules
use Rattle.gen_net.specs.declared.marks.Marks.{Marks}
use Rattle.gen_net.specs.declared.marks.FrontFault.{FrontFault}
use Rattle.gen_net.specs.declared.marks.FrontFault.TheVariants as faults
use Rattle.gen_net.specs.declared.version.Version.{Version}
use Rattle.gen_net.specs.declared.version.Version.TheVariants.{One, Two}
use Rattle.gen_net.specs.Front.{AreMarks, mark_spelling, front_spelling}
use Rattle.gen_net.specs.FrontReading.{version_behind, mark_at, header_fault, header_behind, front_at}
use Rattle.gen_net.specs.Header.{RunHeader, IsHeader, header_spelling}
use Rattle.gen_net.specs.HeaderReading.{header_at}
use Rattle.gen_net.specs.Version.{version_one, version_two, version_bytes}
use Rattle.gen_net.proofs.HeaderLaws.{header_reads}

-- ---- the mark

-- the number of a version
version_number : Version → ℕ
version_number One = version_one
version_number (Two slot) = version_two

record MarkTaken (marks : Marks) (bytes : List ℕ) (x : ℕ × List ℕ) : Type 0 where
  taken : (version : Version) → version_number version ≡ x.0 → Takes bytes (mark_spelling marks version) x.1
  rest : IsBytes x.1

one_marked : (marks : Marks) (bytes rest : List ℕ) → Takes bytes (to_be_bytes w32 marks.one) rest → (version : Version) → version_number version ≡ version_one → Takes bytes (mark_spelling marks version) rest
unfolding version_number
one_marked marks bytes rest t One e = t
one_marked marks bytes rest t (Two slot) e = absurd (omega (arith, e))

two_marked : (marks : Marks) (bytes rest : List ℕ) → Takes bytes (to_be_bytes w32 marks.two) rest → (version : Version) → version_number version ≡ version_two → Takes bytes (mark_spelling marks version) rest
unfolding version_number
two_marked marks bytes rest t One e = absurd (omega (arith, e))
two_marked marks bytes rest t (Two slot) e = t

behind_mark : (marks : Marks) (bytes : List ℕ) (mark : ℕ) (rest : List ℕ) (x : ℕ × List ℕ) → Takes bytes (to_be_bytes w32 mark) rest → version_behind marks mark rest ≡ Ok x → MarkTaken marks bytes x
behind_mark marks bytes mark rest x t e = elim (bool_cases (eqb mark marks.one)) [
  | inl one ↦
      let read : Ok (version_one, rest) ≡ Ok x = rw one at e in
      let is : mark ≡ marks.one = eqb-true _ _ one in
      at_end {F = FrontFault} (MarkTaken marks bytes) (version_one, rest) x read (record { taken = one_marked marks bytes rest (subst (λ (m : ℕ). Takes bytes (to_be_bytes w32 m) rest) is t); rest = t.rest_fits })
  | inr not_one ↦
      let next = rw not_one at e in
      elim (bool_cases (eqb mark marks.two)) [
        | inl two ↦
            let read : Ok (version_two, rest) ≡ Ok x = rw two at next in
            let is : mark ≡ marks.two = eqb-true _ _ two in
            at_end {F = FrontFault} (MarkTaken marks bytes) (version_two, rest) x read (record { taken = two_marked marks bytes rest (subst (λ (m : ℕ). Takes bytes (to_be_bytes w32 m) rest) is t); rest = t.rest_fits })
        | inr not_two ↦
            let refused = rw not_two at next in
            absurd cc
      ]
]

mark_takes : (marks : Marks) (bytes : List ℕ) (x : ℕ × List ℕ) → IsBytes bytes → mark_at marks bytes ≡ Ok x → MarkTaken marks bytes x
unfolding mark_at
mark_takes marks bytes x fits e =
    after (number_at faults.Truncated w32 bytes) (λ mark. version_behind marks mark.0 mark.1) x e (λ mark r0 e0.
    let t = number_takes faults.Truncated w32 (2 ^ 32) wide32 bytes mark.0 mark.1 fits r0 in
    behind_mark marks bytes mark.0 mark.1 x t.0 e0)

mark_again : (marks : Marks) → AreMarks marks → (version : Version) (rest : List ℕ) → mark_at marks (mark_spelling marks version ++ rest) ≡ Ok (version_number version, rest)
unfolding mark_at version_number
mark_again marks are One rest =
    let same : eqb marks.one marks.one ≡ true = eq-eqb marks.one marks.one refl in
    rw (number_again {F = FrontFault} faults.Truncated w32 (2 ^ 32) wide32 marks.one rest are.one, same) refl
mark_again marks are (Two slot) rest =
    let other = ne_eqb marks.two marks.one (λ e. are.different (sym e)) in
    let same : eqb marks.two marks.two ≡ true = eq-eqb marks.two marks.two refl in
    rw (number_again {F = FrontFault} faults.Truncated w32 (2 ^ 32) wide32 marks.two rest are.two, other, same) refl

-- ---- the header

first_of : (version : Version) (text rest : List ℕ) → (more : List ℕ) × ((version_bytes version ++ text) ++ rest ≡ version_number version ∷ more)
unfolding version_number
first_of One text rest = (text ++ rest, refl)
first_of (Two slot) text rest = (slot ∷ (text ++ rest), refl)

first_byte : (h : RunHeader) (rest : List ℕ) → (more : List ℕ) × (header_spelling h ++ rest ≡ version_number h.version ∷ more)
first_byte h rest = first_of h.version _ rest

record HeaderTaken (version : ℕ) (bytes : List ℕ) (x : RunHeader × List ℕ) : Type 0 where
  taken : Takes bytes (header_spelling x.0) x.1
  is : IsHeader x.0
  same : version_number x.0.version ≡ version

byte_is : (bytes : List ℕ) (version : ℕ) (number : ℕ × List ℕ) (more : List ℕ) → byte_at {F = FrontFault} faults.Truncated bytes ≡ Ok number → bytes ≡ version ∷ more → version ≡ number.0
byte_is bytes version number more e parts =
    let read : byte_at {F = FrontFault} faults.Truncated bytes ≡ Ok (version, more) = ap (byte_at faults.Truncated) parts in
    ap (λ (p : ℕ × List ℕ). p.0) (ok_is {F = FrontFault} (version, more) number (sym read ∙ e))

header_takes : (version : ℕ) (bytes : List ℕ) (x : RunHeader × List ℕ) → IsBytes bytes → header_behind version bytes ≡ Ok x → HeaderTaken version bytes x
unfolding header_behind
header_takes version bytes x fits e =
    after (byte_at faults.Truncated bytes) (λ number. check (eqb number.0 version) (faults.BadHeader rules.UnknownVersion) >>= λ known. map_fault header_fault (header_at bytes)) x e (λ number r0 e0.
    after_check (eqb number.0 version) (faults.BadHeader rules.UnknownVersion) (λ known. map_fault header_fault (header_at bytes)) x e0 (λ known e1.
    let t = header_reads.takes bytes x fits (mapped_ok header_fault (header_at bytes) x e1) in
    let first = first_byte x.0 x.1 in
    let same = byte_is bytes (version_number x.0.version) number first.0 r0 (t.0.parts ∙ first.1) in
    record { taken = t.0; is = t.1; same = same ∙ eqb-true _ _ known }))

header_again : (h : RunHeader) (rest : List ℕ) → IsHeader h → header_behind (version_number h.version) (header_spelling h ++ rest) ≡ Ok (h, rest)
unfolding header_behind
header_again h rest is =
    let first = first_byte h rest in
    let byte : byte_at {F = FrontFault} faults.Truncated (header_spelling h ++ rest) ≡ Ok (version_number h.version, first.0) = ap (byte_at faults.Truncated) first.1 in
    let same : eqb (version_number h.version) (version_number h.version) ≡ true = eq-eqb (version_number h.version) (version_number h.version) refl in
    let read = header_reads.again h rest is in
    rw (byte, same, read) refl

-- ---- both

front_takes : (marks : Marks) (bytes : List ℕ) (x : RunHeader × List ℕ) → IsBytes bytes → front_at marks bytes ≡ Ok x → Takes bytes (front_spelling marks x.0) x.1 × IsHeader x.0
unfolding front_at
front_takes marks bytes x fits e =
    after (mark_at marks bytes) (λ mark. header_behind mark.0 mark.1) x e (λ mark r0 e0.
    let t0 = mark_takes marks bytes mark fits r0 in
    let t1 = header_takes mark.0 mark.1 x t0.rest e0 in
    (Takes-then bytes (mark_spelling marks x.0.version) mark.1 (header_spelling x.0) x.1 (t0.taken x.0.version t1.same) t1.taken, t1.is))

front_again : (marks : Marks) → AreMarks marks → (h : RunHeader) (rest : List ℕ) → IsHeader h → front_at marks (front_spelling marks h ++ rest) ≡ Ok (h, rest)
unfolding front_at
front_again marks are h rest is =
    let regrouped : front_spelling marks h ++ rest ≡ mark_spelling marks h.version ++ (header_spelling h ++ rest) = append_assoc (mark_spelling marks h.version) (header_spelling h) rest in
    let mark = mark_again marks are h.version (header_spelling h ++ rest) in
    let header = header_again h rest is in
    ap (front_at marks) regrouped ∙ rw (mark, header) refl

pub front_reads : (marks : Marks) → AreMarks marks → Reads (front_at marks) (front_spelling marks) IsHeader
front_reads marks are = record { takes = front_takes marks; again = front_again marks are }
