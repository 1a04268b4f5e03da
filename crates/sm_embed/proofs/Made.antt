-- What is held of what was made for a call of systems.
use Rattle.std.proofs.Common.{◌≡◌, ℕ, List, Option, Result, Ok, Err, inl, inr, sym, subst}
use Rattle.std.specs.Prelude.{IfOk, IfErr}
use Rattle.gen_types.specs.Reading.{Gives}
use Rattle.gen_types.specs.declared.reading.ReadError.{ReadError}
use Rattle.gen_types.specs.declared.reading.ReadError.TheVariants as errors
use Rattle.gen_enrolling.specs.declared.enroll_fault.EnrollFault.{EnrollFault}
use Rattle.gen_facts.specs.declared.fact.Fact.{Fact}
use Rattle.sm_embed.specs.Loops.Keeping.{HasFault, HoldsIt, KeepsMade}
use Rattle.sm_embed.specs.Systems.{HoldsSuch, IsHeld, MakesGiven, parts_of}
use Rattle.sm_embed.specs.declared.kept.Kept.{Kept}

-- what was made is held, or nothing is
by_made : (K : Kept → Type 0) (F : EnrollFault → Type 0) (kept : Kept) (held : Option Kept) (status : ℕ) → K kept → HoldsIt kept 0 held status → IsHeld K F held status
by_made K F kept held status is (inl x) = inl (x.0, subst (λ (h : Option Kept). HoldsSuch K h) (sym x.1) is)
by_made K F kept held status is (inr x) = inr (inr x)

pub is_held : (K : Kept → Type 0) (F : EnrollFault → Type 0) (made : Result Kept (ReadError EnrollFault)) (held : Option Kept) (status : ℕ) → IfOk made K → IfErr made (HasFault F) → KeepsMade made held status → IsHeld K F held status
is_held K F (Ok kept) held status k f keeps = by_made K F kept held status k keeps
is_held K F (Err errors.Memory) held status k f keeps = inr (inr keeps)
is_held K F (Err (errors.Fault fault)) held status k f (inl x) = inr (inl (fault, f, x.0, x.1))
is_held K F (Err (errors.Fault fault)) held status k f (inr x) = inr (inr x)

-- the same where a definition gives it
pub is_given : (given : Result (List ℕ × List Fact) EnrollFault) (made : Result Kept (ReadError EnrollFault)) (held : Option Kept) (status : ℕ) → Gives parts_of made given → KeepsMade made held status → MakesGiven given held status
is_given given (Ok kept) held status is keeps = by_made (λ k. given ≡ Ok (parts_of k)) (λ f. given ≡ Err f) kept held status is keeps
is_given given (Err errors.Memory) held status is keeps = inr (inr keeps)
is_given given (Err (errors.Fault fault)) held status is (inl x) = inr (inl (fault, is, x.0, x.1))
is_given given (Err (errors.Fault fault)) held status is (inr x) = inr (inr x)
