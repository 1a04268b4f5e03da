-- What is held of an answer or of a fault.
use Rattle.std.specs.Prelude.{ℕ, ◌≡◌, ◌⊎◌, if◌then◌else◌, Option, Some, None, Result, Ok, Err}
use Rattle.gen_ends.specs.FaultLines.{job_fault_line}
use Rattle.gen_jobs.specs.declared.in_place.Answered.{Answered}
use Rattle.gen_ends.specs.declared.ends.JobFault.{JobFault}
use Rattle.gen_types.specs.declared.reading.ReadError.{ReadError}
use Rattle.gen_types.specs.declared.reading.ReadError.TheVariants as errors
use Rattle.gen_enrolling.specs.declared.enroll_fault.EnrollFault.{EnrollFault}
use Rattle.sm_embed.specs.EnrollLines.{enroll_fault_line, enroll_number}
use Rattle.sm_embed.specs.Making.{HoldsText, line_number}
use Rattle.sm_embed.specs.declared.kept.Kept.{Kept}

-- what is held of an answer, or of the fault in its place, and the number that says so
abbrev pub IsKept : Result Answered JobFault → Kept → ℕ → Type 0
IsKept (Ok answered) kept status =
    (kept ≡ record { text = answered.output.text; facts = answered.facts })
    × (status ≡ if answered.output.negative then 1 else 0)
IsKept (Err fault) kept status =
    (line_number fault ≡ Some status) × HoldsText (job_fault_line fault) (Some kept)

-- an answer, or the fault in its place, is held; or nothing is, because memory was refused
abbrev pub Keeps : Result Answered JobFault → Option Kept → ℕ → Type 0
Keeps answered None status = status ≡ 4
Keeps answered (Some kept) status = IsKept answered kept status

-- this is held, and the number is this one; or nothing is, because memory was refused
abbrev pub HoldsIt : Kept → ℕ → Option Kept → ℕ → Type 0
HoldsIt kept number held status =
    ((status ≡ number) × (held ≡ Some kept)) ⊎ ((status ≡ 4) × (held ≡ None))

-- memory was refused, or this is so of the fault
abbrev pub HasFault : (EnrollFault → Type 0) → ReadError EnrollFault → Type 0
HasFault IsFault errors.Memory = Unit {0}
HasFault IsFault (errors.Fault fault) = IsFault fault

-- what is made of a system, or the line of the fault in its place, is held; or nothing is, because memory was
-- refused
abbrev pub KeepsMade : Result Kept (ReadError EnrollFault) → Option Kept → ℕ → Type 0
KeepsMade (Ok kept) held status = HoldsIt kept 0 held status
KeepsMade (Err errors.Memory) held status = (status ≡ 4) × (held ≡ None)
KeepsMade (Err (errors.Fault fault)) held status =
    ((enroll_number fault ≡ status) × HoldsText (enroll_fault_line fault) held)
    ⊎ ((status ≡ 4) × (held ≡ None))
