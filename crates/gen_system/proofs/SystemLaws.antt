-- Systems: what was read is what stood there, and what was written is read again.
use Rattle.std.proofs.Common.{◌≡◌, ◌≤◌, ℕ, ◌^◌, Bool, true, false, not, eqb, leb, List, [], ◌∷◌, ◌++◌, Result, Ok, refl, sym, ap, ◌∙◌, append_assoc, arith, inl, inr}
use Rattle.std.specs.Int.{w32, to_be_bytes}
use Rattle.std.proofs.lemmas.Bool.{eqb-true, eq-eqb, leb-true, le-leb}
use Rattle.gen_types.specs.Reading.{◌>>=◌, check}
use Rattle.gen_types.specs.Bytes.{byte_at, bytes_at, number_at}
use Rattle.gen_types.proofs.Lists.{bool_cases}
use Rattle.gen_types.proofs.ByteFields.{IsBytes, Takes, Takes-then, byte_takes, bytes_takes, bytes_again, number_takes, number_again, wide32}
use Rattle.gen_types.proofs.ManyFields.{Reads}
use Rattle.gen_types.proofs.Steps.{after, after_check, at_end, mapped_ok}
use Rattle.gen_net.specs.Header.{RunHeader, IsHeader, slot_of, header_spelling}
use Rattle.gen_net.specs.HeaderReading.{header_at}
use Rattle.gen_net.proofs.HeaderLaws.{header_reads}
use Rattle.gen_identity.specs.Openings.{most_levels}
use Rattle.gen_system.specs.declared.proposers.Proposer.{Proposer}
use Rattle.gen_system.specs.declared.proposers.Proposer.TheVariants.{First, Turns}
use Rattle.gen_system.specs.declared.system_fault.SystemFault.{SystemFault}
use Rattle.gen_system.specs.declared.system_fault.SystemFault.TheVariants as faults
use Rattle.gen_system.specs.SystemReading.{header_fault, any_header_at, marked_header_at, proposer_numbered, proposer_at, levels_at, system_at}
use Rattle.gen_system.specs.Systems.{RunSystem, IsSystem, context_length, has_equal, fit_header, proposer_number, choices_spelling, system_mark, system_spelling}
use Rattle.gen_system.proofs.Apart.{apart_told, apart_again}

-- ---- the header

-- what a header that can be a system's is
pub record Fitting (h : RunHeader) : Type 0 where
  pub slot : slot_of h ≡ 0
  pub apart : has_equal h.roots ≡ false

was_not : (b : Bool) → not b ≡ true → b ≡ false
was_not true e = absurd cc
was_not false e = refl

pub fitting : (h k : RunHeader) → fit_header h ≡ Ok k → (h ≡ k) × Fitting h
unfolding fit_header
fitting h k e =
    after_check (eqb (slot_of h) 0) faults.OtherSlot (λ slot. check (not (has_equal h.roots)) faults.EqualIdentities >>= λ apart. Ok h) k e (λ slot e0.
    after_check (not (has_equal h.roots)) faults.EqualIdentities (λ apart. Ok h) k e0 (λ apart e1.
    at_end {F = SystemFault} (λ (x : RunHeader). (h ≡ x) × Fitting h) h k e1 (refl, record { slot = eqb-true _ _ slot; apart = was_not _ apart })))

pub fit_again : (h : RunHeader) → Fitting h → fit_header h ≡ Ok h
unfolding fit_header
fit_again h is =
    let slot : eqb (slot_of h) 0 ≡ true = eq-eqb _ _ is.slot in
    rw (slot, is.apart) refl

abbrev mark_bytes : List ℕ
mark_bytes = to_be_bytes w32 system_mark

record HeaderTaken (bytes : List ℕ) (x : RunHeader × List ℕ) : Type 0 where
  taken : Takes bytes (mark_bytes ++ header_spelling x.0) x.1
  is : IsHeader x.0
  fits : Fitting x.0

header_taken : (bytes : List ℕ) (x : RunHeader × List ℕ) → IsBytes bytes → marked_header_at bytes ≡ Ok x → HeaderTaken bytes x
unfolding marked_header_at
header_taken bytes x are e =
    after (number_at faults.Truncated w32 bytes) (λ mark. check (eqb mark.0 system_mark) faults.UnknownMark >>= λ known. any_header_at mark.1 >>= λ header. fit_header header.0 >>= λ fit. Ok header) x e (λ mark r0 e0.
    after_check (eqb mark.0 system_mark) faults.UnknownMark (λ known. any_header_at mark.1 >>= λ header. fit_header header.0 >>= λ fit. Ok header) x e0 (λ known e1.
    after (any_header_at mark.1) (λ header. fit_header header.0 >>= λ fit. Ok header) x e1 (λ header r2 e2.
    after (fit_header header.0) (λ fit. Ok header) x e2 (λ fit r3 e3.
    let t0 = number_takes faults.Truncated w32 (2 ^ 32) wide32 bytes mark.0 mark.1 are r0 in
    let mark_is : mark.0 ≡ system_mark = eqb-true _ _ known in
    let front : Takes bytes mark_bytes mark.1 = rw mark_is at t0.0 in
    let t1 = header_reads.takes mark.1 header front.rest_fits (mapped_ok header_fault (header_at mark.1) header r2) in
    at_end {F = SystemFault} (HeaderTaken bytes) header x e3 (record {
      taken = Takes-then bytes mark_bytes mark.1 (header_spelling header.0) header.1 front t1.0;
      is = t1.1;
      fits = (fitting header.0 fit r3).1;
    })))))

header_again : (h : RunHeader) (rest : List ℕ) → IsHeader h → Fitting h → marked_header_at (mark_bytes ++ (header_spelling h ++ rest)) ≡ Ok (h, rest)
unfolding marked_header_at
header_again h rest is fits =
    let mark = number_again {F = SystemFault} faults.Truncated w32 (2 ^ 32) wide32 system_mark (header_spelling h ++ rest) (omega arith) in
    rw (mark, header_reads.again h rest is, fit_again h fits) refl

-- ---- what follows it

numbered : (number : ℕ) (proposer : Proposer) → proposer_numbered number ≡ Ok proposer → proposer_number proposer ≡ number
numbered number proposer e = elim (bool_cases (eqb number 0)) [
  | inl zero_is ↦
      let read : Ok First ≡ Ok proposer = rw zero_is at e in
      at_end {F = SystemFault} (λ (p : Proposer). proposer_number p ≡ number) First proposer read (sym (eqb-true _ _ zero_is))
  | inr not_zero ↦
      let next = rw not_zero at e in
      elim (bool_cases (eqb number 1)) [
        | inl one_is ↦
            let read : Ok Turns ≡ Ok proposer = rw one_is at next in
            at_end {F = SystemFault} (λ (p : Proposer). proposer_number p ≡ number) Turns proposer read (sym (eqb-true _ _ one_is))
        | inr not_one ↦
            let refused = rw not_one at next in
            absurd cc
      ]
]

proposer_taken : (bytes : List ℕ) (x : Proposer × List ℕ) → IsBytes bytes → proposer_at bytes ≡ Ok x → Takes bytes (proposer_number x.0 ∷ []) x.1
unfolding proposer_at
proposer_taken bytes x are e =
    after (byte_at faults.Truncated bytes) (λ number. proposer_numbered number.0 >>= λ proposer. Ok (proposer, number.1)) x e (λ number r0 e0.
    after (proposer_numbered number.0) (λ proposer. Ok (proposer, number.1)) x e0 (λ proposer r1 e1.
    let t = byte_takes faults.Truncated bytes number.0 number.1 are r0 in
    at_end {F = SystemFault} (λ (y : Proposer × List ℕ). Takes bytes (proposer_number y.0 ∷ []) y.1) (proposer, number.1) x e1 (rw (numbered number.0 proposer r1) t.0)))

proposer_again : (proposer : Proposer) (rest : List ℕ) → proposer_at (proposer_number proposer ∷ rest) ≡ Ok (proposer, rest)
unfolding proposer_at
proposer_again First rest = refl
proposer_again Turns rest = refl

abbrev AreFew : ℕ → Type 0
AreFew levels = levels ≤ most_levels

levels_taken : (bytes : List ℕ) (x : ℕ × List ℕ) → IsBytes bytes → levels_at bytes ≡ Ok x → Takes bytes (x.0 ∷ []) x.1 × (AreFew x.0)
unfolding levels_at
levels_taken bytes x are e =
    after (byte_at faults.Truncated bytes) (λ levels. check (leb levels.0 most_levels) faults.TooManyLevels >>= λ few. Ok levels) x e (λ levels r0 e0.
    after_check (leb levels.0 most_levels) faults.TooManyLevels (λ few. Ok levels) x e0 (λ few e1.
    let t = byte_takes faults.Truncated bytes levels.0 levels.1 are r0 in
    at_end {F = SystemFault} (λ (y : ℕ × List ℕ). Takes bytes (y.0 ∷ []) y.1 × AreFew y.0) levels x e1 (t.0, leb-true _ _ few)))

levels_again : (levels : ℕ) (rest : List ℕ) → AreFew levels → levels_at (levels ∷ rest) ≡ Ok (levels, rest)
unfolding levels_at
levels_again levels rest few =
    let known : leb levels most_levels ≡ true = le-leb _ _ few in
    rw known refl

-- ---- the system

abbrev SystemTaken : List ℕ → RunSystem × List ℕ → Type 0
SystemTaken bytes x = Takes bytes (system_spelling x.0) x.1 × IsSystem x.0

system_takes : (bytes : List ℕ) (x : RunSystem × List ℕ) → IsBytes bytes → system_at bytes ≡ Ok x → SystemTaken bytes x
unfolding system_at
system_takes bytes x are e =
    let made : RunHeader → Proposer → ℕ → List ℕ × List ℕ → Result (RunSystem × List ℕ) SystemFault = λ header proposer levels context. Ok (record { header = header; proposer = proposer; levels = levels; context = context.0 }, context.1) in
    after (marked_header_at bytes) (λ header. proposer_at header.1 >>= λ proposer. levels_at proposer.1 >>= λ levels. bytes_at faults.Truncated context_length levels.1 >>= made header.0 proposer.0 levels.0) x e (λ header r0 e0.
    after (proposer_at header.1) (λ proposer. levels_at proposer.1 >>= λ levels. bytes_at faults.Truncated context_length levels.1 >>= made header.0 proposer.0 levels.0) x e0 (λ proposer r1 e1.
    after (levels_at proposer.1) (λ levels. bytes_at faults.Truncated context_length levels.1 >>= made header.0 proposer.0 levels.0) x e1 (λ levels r2 e2.
    after (bytes_at faults.Truncated context_length levels.1) (made header.0 proposer.0 levels.0) x e2 (λ context r3 e3.
    let t0 = header_taken bytes header are r0 in
    let t1 = proposer_taken header.1 proposer t0.taken.rest_fits r1 in
    let t2 = levels_taken proposer.1 levels t1.rest_fits r2 in
    let t3 = bytes_takes faults.Truncated context_length levels.1 context.0 context.1 t2.0.rest_fits r3 in
    let t23 = Takes-then proposer.1 (levels.0 ∷ []) levels.1 context.0 context.1 t2.0 t3.0 in
    let t13 = Takes-then header.1 (proposer_number proposer.0 ∷ []) proposer.1 (levels.0 ∷ context.0) context.1 t1 t23 in
    let t03 = Takes-then bytes (mark_bytes ++ header_spelling header.0) header.1 (choices_spelling proposer.0 levels.0 context.0) context.1 t0.taken t13 in
    let whole : Takes bytes (mark_bytes ++ (header_spelling header.0 ++ choices_spelling proposer.0 levels.0 context.0)) context.1 = rw (append_assoc mark_bytes (header_spelling header.0) (choices_spelling proposer.0 levels.0 context.0)) at t03 in
    at_end {F = SystemFault} (SystemTaken bytes) (record { header = header.0; proposer = proposer.0; levels = levels.0; context = context.0 }, context.1) x e3
    (whole, record { header = t0.is; slot = t0.fits.slot; apart = apart_told _ t0.fits.apart; few = t2.1; context = t3.1 })))))

system_again : (s : RunSystem) (rest : List ℕ) → IsSystem s → system_at (system_spelling s ++ rest) ≡ Ok (s, rest)
unfolding system_at
system_again s rest is =
    let choices = choices_spelling s.proposer s.levels s.context in
    let apart : system_spelling s ++ rest ≡ mark_bytes ++ (header_spelling s.header ++ (choices ++ rest))
    = append_assoc mark_bytes (header_spelling s.header ++ choices) rest
    ∙ ap (λ (t : List ℕ). mark_bytes ++ t) (append_assoc (header_spelling s.header) choices rest) in
    let header = header_again s.header (choices ++ rest) is.header (record { slot = is.slot; apart = apart_again _ is.apart }) in
    let proposer = proposer_again s.proposer (s.levels ∷ (s.context ++ rest)) in
    let levels = levels_again s.levels (s.context ++ rest) is.few in
    let context = bytes_again {F = SystemFault} faults.Truncated context_length s.context rest is.context in
    ap system_at apart ∙ rw (header, proposer, levels, context) refl

pub systems_read : Reads system_at system_spelling IsSystem
systems_read = record { takes = system_takes; again = system_again }
