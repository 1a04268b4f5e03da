-- What a call makes of an answer that a caller in another language holds.
use Rattle.std.specs.Prelude.{ℕ, ◌≡◌, ◌==◌, ◌⊎◌, if◌then◌else◌, Bool, true, false, List, [], Option, Some, None}
use Rattle.std.specs.List.{flat_map}
use Rattle.gen_asked.specs.declared.jobs.Job.{Job}
use Rattle.gen_facts.specs.declared.fact.Fact.{Fact}
use Rattle.gen_file.specs.Kinds.{file_kind}
use Rattle.gen_ends.specs.Ends.{fault_status}
use Rattle.gen_jobs.specs.Facts.{JobFacts}
use Rattle.gen_ends.specs.FaultLines.{job_fault_line}
use Rattle.gen_jobs.specs.Jobs.{JobAnswers, JobFails}
use Rattle.gen_campaign.specs.FileRuns.{runs_as}
use Rattle.gen_ends.specs.declared.ends.JobFault.{JobFault}
use Rattle.gen_ends.specs.declared.ends.JobFault.TheVariants as faults
use Rattle.sm_embed.specs.declared.kept.Kept.{Kept}

-- the number for the line of a fault: 7 for an input of another run, 3 for any other fault of the input, and
-- None for want of memory, of a thread, of a read or of a write, which has no line
abbrev pub line_number : JobFault → Option ℕ
line_number faults.OtherRun = Some 7
line_number fault = if fault_status fault == 3 then Some 3 else None

-- there are no facts
abbrev pub AreNone : List Fact → Type 0
AreNone facts = facts ≡ []

-- an answer is held: a text, which says no if `negative` is true, and facts
abbrev pub HoldsAnswer : (List ℕ → Bool → Type 0) → (List Fact → Type 0) → Bool → Option Kept → Type 0
HoldsAnswer IsAnswer AreFacts negative None = ⊥
HoldsAnswer IsAnswer AreFacts negative (Some kept) =
    IsAnswer kept.text.items negative × AreFacts kept.facts.items

-- this text is held, and no facts
abbrev pub HoldsText : List ℕ → Option Kept → Type 0
HoldsText text None = ⊥
HoldsText text (Some kept) = (kept.text.items ≡ text) × AreNone kept.facts.items

-- the line of a fault of the input is held, whose number is this, and no facts
abbrev pub HoldsFault : (JobFault → Type 0) → Option Kept → ℕ → Type 0
HoldsFault IsFault held status =
    (fault : JobFault) × IsFault fault × (line_number fault ≡ Some status)
    × HoldsText (job_fault_line fault) held

-- A job has answers to its input, each a text that says no or doesn't, its answers have facts, and it has
-- faults. At 0 and 1 an answer is held, which says no at 1. At 3 and 7 the line of a fault is. At 4 memory
-- was refused, and nothing is held.
abbrev pub IsMade : (List ℕ → Bool → Type 0) → (List Fact → Type 0) → (JobFault → Type 0)
    → Option Kept → ℕ → Type 0
IsMade IsAnswer AreFacts IsFault held status =
    (status ≡ 0) × HoldsAnswer IsAnswer AreFacts false held
    ⊎ ((status ≡ 1) × HoldsAnswer IsAnswer AreFacts true held
    ⊎ (HoldsFault IsFault held status
    ⊎ ((status ≡ 4) × (held ≡ None))))

-- the call may not be made so, and nothing is held
abbrev pub IsMisuse : Option Kept → ℕ → Type 0
IsMisuse held status = (status ≡ 2) × (held ≡ None)

-- what is made of this job's answer to the input, which has no name
abbrev pub MakesJob : Job → List ℕ → Option Kept → ℕ → Type 0
MakesJob job input held status =
    IsMade (JobAnswers job None input) (JobFacts job input) (JobFails job input) held status

-- the ids are held one after another, and no facts; if there are none, the number is 3, and nothing is held
abbrev pub HoldsIds : Option (List (List ℕ)) → Option Kept → ℕ → Type 0
HoldsIds None held status = (status ≡ 3) × (held ≡ None)
HoldsIds (Some ids) held status = (status ≡ 0) × HoldsText (flat_map (λ id. id) ids) held

-- the ids of the runs of the input are held, if it is a whole file; or memory was refused, and nothing is
-- held
abbrev pub HoldsRuns : List ℕ → Option Kept → ℕ → Type 0
HoldsRuns input held status =
    ((status ≡ 4) × (held ≡ None)) ⊎ HoldsIds (runs_as (file_kind input) input) held status
