-- What the end of a job says of its input and of what was written.
use Rattle.std.specs.Prelude.{◌≡◌, ℕ, Bool, true, false, List, Option, Result, Ok, Err}
use Rattle.std.specs.Io.KnownBytes.{Appends, Keeps}
use Rattle.gen_ends.specs.declared.ends.JobEnd.{JobEnd}
use Rattle.gen_ends.specs.declared.ends.JobEnd.TheVariants.{Done, Negative, Failed}
use Rattle.gen_ends.specs.declared.ends.JobFault.{JobFault}
use Rattle.gen_ends.specs.declared.ends.JobFault.TheVariants as faults
use Rattle.gen_ends.specs.declared.ends.Output.{Output}
use Rattle.gen_ends.specs.Ends.{IsWritten}

-- A job has answers to its input, each a text that says no or doesn't, and it has faults. If the job didn't
-- fail, an answer is appended to what the writer held, and it says no if the end is Negative. A write is
-- tried only with an answer. Any fault but Memory, Read and Write is one that the job has at the input.
abbrev pub Answers :
    (List ℕ → Bool → Type 0) → (JobFault → Type 0) → Option (List ℕ) → Option (List ℕ) → JobEnd → Type 0
Answers IsAnswer IsFault old new Done = (text : List ℕ) × IsAnswer text false × Appends old new text
Answers IsAnswer IsFault old new Negative = (text : List ℕ) × IsAnswer text true × Appends old new text
Answers IsAnswer IsFault old new (Failed faults.Memory) = Unit {0}
Answers IsAnswer IsFault old new (Failed faults.Read) = Unit {0}
Answers IsAnswer IsFault old new (Failed faults.Write) =
    (text : List ℕ) × (negative : Bool) × IsAnswer text negative
Answers IsAnswer IsFault old new (Failed f) = IsFault f

-- the output was written, or the write failed; if there is a fault in its place, the end is that fault, and
-- nothing was written
abbrev pub Delivers : Result Output JobFault → Option (List ℕ) → Option (List ℕ) → JobEnd → Type 0
Delivers (Ok output) old new end = IsWritten output.text.items output.negative old new end
Delivers (Err fault) old new end = (end ≡ Failed fault) × Keeps old new

-- the text, which never says no, was written, or the write failed; if there is a fault in its place, the end
-- is that fault, and nothing was written
abbrev pub DeliversText : Result (List ℕ) JobFault → Option (List ℕ) → Option (List ℕ) → JobEnd → Type 0
DeliversText (Ok text) old new end = IsWritten text false old new end
DeliversText (Err fault) old new end = (end ≡ Failed fault) × Keeps old new
