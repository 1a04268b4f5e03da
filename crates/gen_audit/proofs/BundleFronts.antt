-- The mark, the header and the set in front of a bundle: what was read is what stood there, and what was written is read again.
use Rattle.std.proofs.Common.{◌≡◌, ℕ, ◌^◌, ◌<◌, ◌≤◌, List, ◌++◌, Contains, Ok, refl, sym, ap, subst, arith}
use Rattle.std.specs.Int.{w16, to_be_bytes}
use Rattle.std.proofs.lemmas.List.Elements.{All-contains}
use Rattle.gen_types.specs.Bits.{members_of, bits_of}
use Rattle.gen_types.specs.BitLaws.{bits_of-members_of, members_ascending, bits_below}
use Rattle.gen_types.specs.Reading.{◌>>=◌, check}
use Rattle.gen_types.specs.Bytes.{number_at}
use Rattle.gen_types.proofs.Steps.{after, after_check, at_end}
use Rattle.gen_types.proofs.ByteFields.{IsBytes, Takes, number_takes, number_again, wide16}
use Rattle.gen_types.proofs.ManyFields.{Reads}
use Rattle.gen_types.proofs.Wrapped.{mapped_reads}
use Rattle.gen_net.specs.Front.{AreMarks, front_spelling}
use Rattle.gen_net.specs.FrontReading as marked
use Rattle.gen_net.specs.Header.{IsHeader}
use Rattle.gen_net.proofs.FrontLaws.{front_reads}
use Rattle.gen_log.specs.Fields.{set_spelling}
use Rattle.gen_types.proofs.BitSteps.{members_back}
use Rattle.gen_audit.specs.declared.bundle_fault.BundleFault.{BundleFault}
use Rattle.gen_audit.specs.declared.bundle_fault.BundleFault.TheVariants as faults
use Rattle.gen_audit.specs.BundleParts.{AreMembers}
use Rattle.gen_audit.specs.BundleMaking.{are_below}
use Rattle.gen_audit.specs.BundleSpelling.{bundle_marks}
use Rattle.gen_audit.specs.BundleFields.{front_fault, front_at, faulty_at}
use Rattle.gen_audit.proofs.BundleParts.{below_known, below_told}

-- ---- the set

abbrev FaultyTaken : ℕ → List ℕ → List ℕ × List ℕ → Type 0
FaultyTaken n bytes x = Takes bytes (set_spelling x.0) x.1 × AreMembers n x.0

faulty_takes : (n : ℕ) (bytes : List ℕ) (x : List ℕ × List ℕ) → IsBytes bytes → faulty_at n bytes ≡ Ok x → FaultyTaken n bytes x
unfolding faulty_at
faulty_takes n bytes x fits e =
    after (number_at faults.Truncated w16 bytes) (λ bits. check (are_below n (members_of bits.0)) faults.FaultyRange >>= λ known. Ok (members_of bits.0, bits.1)) x e (λ bits r0 e0.
    after_check (are_below n (members_of bits.0)) faults.FaultyRange (λ known. Ok (members_of bits.0, bits.1)) x e0 (λ known e1.
    let t = number_takes faults.Truncated w16 (2 ^ 16) wide16 bytes bits.0 bits.1 fits r0 in
    let spelled : to_be_bytes w16 bits.0 ≡ set_spelling (members_of bits.0) = ap (to_be_bytes w16) (sym (bits_of-members_of bits.0 t.1)) in
    at_end {F = BundleFault} (FaultyTaken n bytes) (members_of bits.0, bits.1) x e1 (
      subst (λ (text : List ℕ). Takes bytes text bits.1) spelled t.0,
      record { ascending = members_ascending bits.0; below = below_known n (members_of bits.0) known },
    )))

faulty_again : (n : ℕ) → n ≤ 16 → (members rest : List ℕ) → AreMembers n members → faulty_at n (set_spelling members ++ rest) ≡ Ok (members, rest)
unfolding faulty_at
faulty_again n few members rest is =
    let small : (v : ℕ) → Contains members v → v < 16 = λ v h. let lt = All-contains (λ w. w < n) members v is.below h in omega (arith, lt, few) in
    let number = number_again faults.Truncated w16 (2 ^ 16) wide16 (bits_of members) rest (bits_below 16 members small) in
    let back = members_back members is.ascending small in
    let all = below_told n members is.below in
    rw (number, back, all) refl

pub faulty_reads : (n : ℕ) → n ≤ 16 → Reads (faulty_at n) set_spelling (AreMembers n)
faulty_reads n few = record { takes = faulty_takes n; again = faulty_again n few }

-- ---- the mark and the header

are_marks : AreMarks bundle_marks
are_marks = record { one = omega arith; two = omega arith; different = λ e. absurd (omega (arith, e)) }

pub fronts_read : Reads front_at (front_spelling bundle_marks) IsHeader
fronts_read = mapped_reads front_fault (marked.front_at bundle_marks) (front_spelling bundle_marks) IsHeader (front_reads bundle_marks are_marks)
