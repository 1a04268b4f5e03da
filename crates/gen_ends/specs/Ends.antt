-- How a job ends: its exit status, its line for standard error, and what it wrote.
use Rattle.std.specs.Prelude.{◌≡◌, ◌≤◌, ℕ, Bool, true, false, List, length, Option, Some, None}
use Rattle.std.specs.Io.KnownBytes.{Appends, Keeps}
use Rattle.gen_ends.specs.declared.ends.JobEnd.{JobEnd}
use Rattle.gen_ends.specs.declared.ends.JobEnd.TheVariants.{Done, Negative, Failed}
use Rattle.gen_ends.specs.declared.ends.JobFault.{JobFault}
use Rattle.gen_ends.specs.declared.ends.JobFault.TheVariants as faults

-- the exit status for this fault of a job
abbrev pub fault_status : JobFault → ℕ
fault_status (faults.Scenario f) = 3
fault_status (faults.Campaign f) = 3
fault_status (faults.Evidence f) = 3
fault_status (faults.Receipt f) = 3
fault_status (faults.Log f) = 3
fault_status (faults.Seed f) = 3
fault_status (faults.EqualRoots a b) = 3
fault_status faults.OtherRun = 3
fault_status faults.Memory = 4
fault_status faults.Thread = 4
fault_status faults.Open = 5
fault_status faults.Read = 5
fault_status faults.Write = 5

-- the exit status for this end of a job
abbrev pub status_of : JobEnd → ℕ
status_of Done = 0
status_of Negative = 1
status_of (Failed f) = fault_status f

-- the fault whose line is written to standard error, if the job failed
abbrev pub fault_in : JobEnd → Option JobFault
fault_in Done = None
fault_in Negative = None
fault_in (Failed f) = Some f

-- the input could not be read whole: memory was refused, or a read failed
abbrev pub IsReadFault : JobFault → Type 0
IsReadFault faults.Memory = Unit {0}
IsReadFault faults.Read = Unit {0}
IsReadFault _ = ⊥

-- An input of more than 1,073,741,824 bytes (2^30) is not taken: the read of it fails, or memory is refused
-- before.
abbrev pub IsTaken : List ℕ → JobEnd → Type 0
IsTaken input (Failed faults.Memory) = Unit {0}
IsTaken input (Failed faults.Read) = Unit {0}
IsTaken input _ = length input ≤ 1073741824

-- The output was appended to what the writer held, and the end is Negative if and only if the output says no;
-- or the write failed.
abbrev pub IsWritten : List ℕ → Bool → Option (List ℕ) → Option (List ℕ) → JobEnd → Type 0
IsWritten text negative old new Done = (negative ≡ false) × Appends old new text
IsWritten text negative old new Negative = (negative ≡ true) × Appends old new text
IsWritten text negative old new (Failed f) = f ≡ faults.Write

-- A job that ended before its output was whole left the writer as it was.
abbrev pub KeepsUntilWhole : Option (List ℕ) → Option (List ℕ) → JobEnd → Type 0
KeepsUntilWhole old new Done = Unit {0}
KeepsUntilWhole old new Negative = Unit {0}
KeepsUntilWhole old new (Failed faults.Write) = Unit {0}
KeepsUntilWhole old new (Failed f) = Keeps old new
