-- Admissions: what was read is what stood there, and what was written is read again.
use Rattle.std.proofs.Common.{◌≡◌, ◌<◌, ◌≤◌, ℕ, ◌^◌, true, eqb, ltb, List, ◌++◌, length, Result, Ok, refl, sym, ap, ◌∙◌, append_assoc, arith}
use Rattle.std.specs.Int.{w32, to_be_bytes}
use Rattle.std.specs.List.{flat_map}
use Rattle.std.proofs.Math.Nat.{pow-le-pow_right}
use Rattle.std.proofs.lemmas.Bool.{eqb-true, eq-eqb, ltb-true, lt-ltb}
use Rattle.gen_types.specs.Reading.{◌>>=◌, check, map_fault}
use Rattle.gen_types.specs.Bytes.{byte_at, bytes_at, number_at, many_at}
use Rattle.gen_types.proofs.ByteFields.{IsBytes, Takes, Takes-then, bytes_takes, bytes_again, number_takes, number_again, wide32}
use Rattle.gen_types.proofs.ManyFields.{Reads, many_take, many_again}
use Rattle.gen_types.proofs.Steps.{after, after_check, at_end, mapped_ok, ok_is}
use Rattle.gen_net.specs.Header.{root_length}
use Rattle.gen_identity.specs.Openings.{IsOpening, most_levels}
use Rattle.gen_identity.specs.OpeningBytes.{opening_spelling, opening_at}
use Rattle.gen_identity.proofs.Spelled.{openings_read}
use Rattle.gen_system.specs.declared.opened_roots.OpenedRoot.{OpenedRoot}
use Rattle.gen_system.specs.declared.admission_fault.AdmissionFault.{AdmissionFault}
use Rattle.gen_system.specs.declared.admission_fault.AdmissionFault.TheVariants as faults
use Rattle.gen_system.specs.AdmissionReading.{system_fault, opening_fault, opening_with, opened_at, marked_system_at, set_at, admission_at}
use Rattle.gen_system.specs.Admissions.{SetAdmission, IsAdmission, IsOpenedRoot, admission_mark, opened_spelling, admission_spelling}
use Rattle.gen_system.specs.SystemReading.{system_at}
use Rattle.gen_system.specs.Systems.{RunSystem, IsSystem, system_spelling}
use Rattle.gen_system.proofs.SystemLaws.{systems_read}

-- ---- roots with their openings

record OpeningTaken (levels : ℕ) (bytes : List ℕ) (x : List (List ℕ) × List ℕ) : Type 0 where
  taken : Takes bytes (opening_spelling x.0) x.1
  is : IsOpening x.0
  one_each : length x.0 ≡ levels

first_is : (bytes : List ℕ) (x : List (List ℕ) × List ℕ) (count : ℕ × List ℕ) → bytes ≡ opening_spelling x.0 ++ x.1 → byte_at {F = AdmissionFault} faults.Truncated bytes ≡ Ok count → length x.0 ≡ count.0
first_is bytes x count parts e =
    let read : byte_at {F = AdmissionFault} faults.Truncated bytes ≡ Ok (length x.0, _) = ap (byte_at faults.Truncated) parts in
    ap (λ (p : ℕ × List ℕ). p.0) (ok_is {F = AdmissionFault} (length x.0, _) count (sym read ∙ e))

opening_taken : (levels : ℕ) (bytes : List ℕ) (x : List (List ℕ) × List ℕ) → IsBytes bytes → opening_with levels bytes ≡ Ok x → OpeningTaken levels bytes x
unfolding opening_with
opening_taken levels bytes x are e =
    after (byte_at faults.Truncated bytes) (λ count. check (eqb count.0 levels) faults.OtherLevels >>= λ same. map_fault opening_fault (opening_at bytes)) x e (λ count r0 e0.
    after_check (eqb count.0 levels) faults.OtherLevels (λ same. map_fault opening_fault (opening_at bytes)) x e0 (λ same e1.
    let t = openings_read.takes bytes x are (mapped_ok opening_fault (opening_at bytes) x e1) in
    record { taken = t.0; is = t.1; one_each = first_is bytes x count t.0.parts r0 ∙ eqb-true _ _ same }))

opening_again : (levels : ℕ) (siblings : List (List ℕ)) (rest : List ℕ) → IsOpening siblings → length siblings ≡ levels → opening_with levels (opening_spelling siblings ++ rest) ≡ Ok (siblings, rest)
unfolding opening_with
opening_again levels siblings rest is one_each =
    let same : eqb (length siblings) levels ≡ true = eq-eqb _ _ one_each in
    let read = openings_read.again siblings rest is in
    rw (same, read) refl

opened_takes : (levels : ℕ) (bytes : List ℕ) (x : OpenedRoot × List ℕ) → IsBytes bytes → opened_at levels bytes ≡ Ok x → Takes bytes (opened_spelling x.0) x.1 × IsOpenedRoot levels x.0
unfolding opened_at
opened_takes levels bytes x are e =
    let made : List ℕ → List (List ℕ) × List ℕ → Result (OpenedRoot × List ℕ) AdmissionFault = λ root opening. Ok (record { root = root; opening = opening.0 }, opening.1) in
    after (bytes_at faults.Truncated root_length bytes) (λ root. opening_with levels root.1 >>= made root.0) x e (λ root r0 e0.
    after (opening_with levels root.1) (made root.0) x e0 (λ opening r1 e1.
    let t0 = bytes_takes faults.Truncated root_length bytes root.0 root.1 are r0 in
    let t1 = opening_taken levels root.1 opening t0.0.rest_fits r1 in
    at_end {F = AdmissionFault} (λ (y : OpenedRoot × List ℕ). Takes bytes (opened_spelling y.0) y.1 × IsOpenedRoot levels y.0) (record { root = root.0; opening = opening.0 }, opening.1) x e1
    (Takes-then bytes root.0 root.1 (opening_spelling opening.0) opening.1 t0.0 t1.taken, record { root = t0.1; opening = t1.is; one_each = t1.one_each })))

opened_again : (levels : ℕ) (o : OpenedRoot) (rest : List ℕ) → IsOpenedRoot levels o → opened_at levels (opened_spelling o ++ rest) ≡ Ok (o, rest)
unfolding opened_at
opened_again levels o rest is =
    let apart : opened_spelling o ++ rest ≡ o.root ++ (opening_spelling o.opening ++ rest) = append_assoc o.root (opening_spelling o.opening) rest in
    let root = bytes_again {F = AdmissionFault} faults.Truncated root_length o.root (opening_spelling o.opening ++ rest) is.root in
    ap (opened_at levels) apart ∙ rw (root, opening_again levels o.opening rest is.opening is.one_each) refl

pub opened_reads : (levels : ℕ) → Reads (opened_at levels) opened_spelling (IsOpenedRoot levels)
opened_reads levels = record { takes = opened_takes levels; again = opened_again levels }

-- ---- the mark and the system

abbrev mark_bytes : List ℕ
mark_bytes = to_be_bytes w32 admission_mark

system_taken : (bytes : List ℕ) (x : RunSystem × List ℕ) → IsBytes bytes → marked_system_at bytes ≡ Ok x → Takes bytes (mark_bytes ++ system_spelling x.0) x.1 × IsSystem x.0
unfolding marked_system_at
system_taken bytes x are e =
    after (number_at faults.Truncated w32 bytes) (λ mark. check (eqb mark.0 admission_mark) faults.UnknownMark >>= λ known. map_fault system_fault (system_at mark.1)) x e (λ mark r0 e0.
    after_check (eqb mark.0 admission_mark) faults.UnknownMark (λ known. map_fault system_fault (system_at mark.1)) x e0 (λ known e1.
    let t0 = number_takes faults.Truncated w32 (2 ^ 32) wide32 bytes mark.0 mark.1 are r0 in
    let mark_is : mark.0 ≡ admission_mark = eqb-true _ _ known in
    let front : Takes bytes mark_bytes mark.1 = rw mark_is at t0.0 in
    let t1 = systems_read.takes mark.1 x front.rest_fits (mapped_ok system_fault (system_at mark.1) x e1) in
    (Takes-then bytes mark_bytes mark.1 (system_spelling x.0) x.1 front t1.0, t1.1)))

system_again : (s : RunSystem) (rest : List ℕ) → IsSystem s → marked_system_at (mark_bytes ++ (system_spelling s ++ rest)) ≡ Ok (s, rest)
unfolding marked_system_at
system_again s rest is =
    let mark = number_again {F = AdmissionFault} faults.Truncated w32 (2 ^ 32) wide32 admission_mark (system_spelling s ++ rest) (omega arith) in
    rw (mark, systems_read.again s rest is) refl

-- ---- the set

set_taken : (levels : ℕ) (bytes : List ℕ) (x : ℕ × List ℕ) → IsBytes bytes → set_at levels bytes ≡ Ok x → Takes bytes (to_be_bytes w32 x.0) x.1 × (x.0 < 2 ^ levels)
unfolding set_at
set_taken levels bytes x are e =
    after (number_at faults.Truncated w32 bytes) (λ set. check (ltb set.0 (2 ^ levels)) faults.SetRange >>= λ below. Ok set) x e (λ set r0 e0.
    after_check (ltb set.0 (2 ^ levels)) faults.SetRange (λ below. Ok set) x e0 (λ below e1.
    let t = number_takes faults.Truncated w32 (2 ^ 32) wide32 bytes set.0 set.1 are r0 in
    at_end {F = AdmissionFault} (λ (y : ℕ × List ℕ). Takes bytes (to_be_bytes w32 y.0) y.1 × (y.0 < 2 ^ levels)) set x e1 (t.0, ltb-true _ _ below)))

-- identities with at most 20 levels have at most 2 ^ 20 sets, so that a set's number has four bytes
pub few_sets : (levels set : ℕ) → levels ≤ most_levels → set < 2 ^ levels → set < 2 ^ 20
few_sets levels set few below =
    let most : 2 ^ levels ≤ 2 ^ 20 = pow-le-pow_right {n = 2} (omega arith) few in
    omega (arith, below, most)

set_again : (levels set : ℕ) (rest : List ℕ) → levels ≤ most_levels → set < 2 ^ levels → set_at levels (to_be_bytes w32 set ++ rest) ≡ Ok (set, rest)
unfolding set_at
set_again levels set rest few lt =
    let number = number_again {F = AdmissionFault} faults.Truncated w32 (2 ^ 32) wide32 set rest (omega (arith, few_sets levels set few lt)) in
    let below : ltb set (2 ^ levels) ≡ true = lt-ltb _ _ lt in
    rw (number, below) refl

-- ---- the admission

abbrev AdmissionTaken : List ℕ → SetAdmission × List ℕ → Type 0
AdmissionTaken bytes x = Takes bytes (admission_spelling x.0) x.1 × IsAdmission x.0

admission_takes : (bytes : List ℕ) (x : SetAdmission × List ℕ) → IsBytes bytes → admission_at bytes ≡ Ok x → AdmissionTaken bytes x
unfolding admission_at
admission_takes bytes x are e =
    let made : RunSystem → ℕ → List OpenedRoot × List ℕ → Result (SetAdmission × List ℕ) AdmissionFault = λ system set opened. Ok (record { system = system; set = set; opened = opened.0 }, opened.1) in
    let each : RunSystem → ℕ × List ℕ → Result (List OpenedRoot × List ℕ) AdmissionFault = λ system set. many_at (opened_at system.levels) system.header.network.generals set.1 in
    after (marked_system_at bytes) (λ system. set_at system.0.levels system.1 >>= λ set. each system.0 set >>= made system.0 set.0) x e (λ system r0 e0.
    after (set_at system.0.levels system.1) (λ set. each system.0 set >>= made system.0 set.0) x e0 (λ set r1 e1.
    after (each system.0 set) (made system.0 set.0) x e1 (λ opened r2 e2.
    let levels = system.0.levels in
    let t0 = system_taken bytes system are r0 in
    let t1 = set_taken levels system.1 set t0.0.rest_fits r1 in
    let t2 = many_take (opened_at levels) opened_spelling (IsOpenedRoot levels) (opened_reads levels) system.0.header.network.generals set.1 opened t1.0.rest_fits r2 in
    let t12 = Takes-then system.1 (to_be_bytes w32 set.0) set.1 (flat_map opened_spelling opened.0) opened.1 t1.0 t2.0 in
    let t02 = Takes-then bytes (mark_bytes ++ system_spelling system.0) system.1 (to_be_bytes w32 set.0 ++ flat_map opened_spelling opened.0) opened.1 t0.0 t12 in
    let whole : Takes bytes (mark_bytes ++ (system_spelling system.0 ++ (to_be_bytes w32 set.0 ++ flat_map opened_spelling opened.0))) opened.1 = rw (append_assoc mark_bytes (system_spelling system.0) (to_be_bytes w32 set.0 ++ flat_map opened_spelling opened.0)) at t02 in
    at_end {F = AdmissionFault} (AdmissionTaken bytes) (record { system = system.0; set = set.0; opened = opened.0 }, opened.1) x e2
    (whole, record { system = t0.1; set = t1.1; one_each = t2.1; opened = t2.2 }))))

admission_again : (a : SetAdmission) (rest : List ℕ) → IsAdmission a → admission_at (admission_spelling a ++ rest) ≡ Ok (a, rest)
unfolding admission_at
admission_again a rest is =
    let set = to_be_bytes w32 a.set in
    let roots = flat_map opened_spelling a.opened in
    let apart : admission_spelling a ++ rest ≡ mark_bytes ++ (system_spelling a.system ++ (set ++ (roots ++ rest)))
    = append_assoc mark_bytes (system_spelling a.system ++ (set ++ roots)) rest
    ∙ ap (λ (t : List ℕ). mark_bytes ++ t) (append_assoc (system_spelling a.system) (set ++ roots) rest
    ∙ ap (λ (t : List ℕ). system_spelling a.system ++ t) (append_assoc set roots rest)) in
    let system = system_again a.system (set ++ (roots ++ rest)) is.system in
    let number = set_again a.system.levels a.set (roots ++ rest) is.system.few is.set in
    let opened : many_at (opened_at a.system.levels) a.system.header.network.generals (roots ++ rest) ≡ Ok (a.opened, rest)
    = rw (← is.one_each) (many_again (opened_at a.system.levels) opened_spelling (IsOpenedRoot a.system.levels) (opened_reads a.system.levels) a.opened rest is.opened) in
    ap admission_at apart ∙ rw (system, number, opened) refl

pub admissions_read : Reads admission_at admission_spelling IsAdmission
admissions_read = record { takes = admission_takes; again = admission_again }
