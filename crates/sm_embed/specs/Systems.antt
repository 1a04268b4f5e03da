-- What the calls for identities, systems and admissions make: bytes or a text, and facts.
use Rattle.std.specs.Prelude.{ℕ, ◌≡◌, ◌==◌, ◌⊎◌, nat_le, nat_lt, if◌then◌else◌, Bool, true, false, List, [], ◌∷◌, filter, map}
use Rattle.std.specs.Prelude.{Option, Some, None, Result, Ok, Err}
use Rattle.std.specs.List.{list_all}
use Rattle.gen_types.specs.declared.heights.TreeHeight.{TreeHeight}
use Rattle.gen_types.specs.declared.heights.TreeHeight.TheVariants.{Four, Six}
use Rattle.gen_types.specs.Reading.{◌>>=◌}
use Rattle.gen_identity.specs.Openings.{most_levels}
use Rattle.gen_system.specs.declared.proposers.Proposer.{Proposer}
use Rattle.gen_system.specs.declared.proposers.Proposer.TheVariants.{First, Turns}
use Rattle.gen_enrolling.specs.declared.enroll_fault.EnrollFault.{EnrollFault}
use Rattle.gen_enrolling.specs.declared.admitted.AdmittedRuns.{AdmittedRuns}
use Rattle.gen_enrolling.specs.declared.gathering.NodeRoots.{NodeRoots}
use Rattle.gen_enrolling.specs.declared.systems.Made.{Made}
use Rattle.gen_enrolling.specs.Admitted.{AreAdmitted, IsRunsFault, RunTold, told_run}
use Rattle.gen_enrolling.specs.Admitting.{IsAdmittedHeader, IsHeaderFault}
use Rattle.gen_enrolling.specs.Enrolling.{enrolled, identity_line}
use Rattle.gen_enrolling.specs.Gathering.{admission_given}
use Rattle.gen_enrolling.specs.Systems.{system_given}
use Rattle.gen_facts.specs.declared.fact.Fact.{Fact}
use Rattle.sm_embed.specs.EnrollLines.{enroll_fault_line, enroll_number}
use Rattle.sm_embed.specs.Making.{HoldsText, IsMisuse}
use Rattle.sm_embed.specs.RunFacts.{facts_of, system_fact}
use Rattle.sm_embed.specs.declared.kept.Kept.{Kept}
use Rattle.sm_embed.specs.declared.systems.SmRoots.{SmRoots}

-- ---- what is held

-- what is held, as a text and facts
abbrev pub parts_of : Kept → List ℕ × List Fact
parts_of kept = (kept.text.items, kept.facts.items)

-- something is held of which this is so
abbrev pub HoldsSuch : (Kept → Type 0) → Option Kept → Type 0
HoldsSuch Is None = ⊥
HoldsSuch Is (Some kept) = Is kept

-- the line of a fault is held, whose number is this
abbrev pub HoldsEnrollFault : (EnrollFault → Type 0) → Option Kept → ℕ → Type 0
HoldsEnrollFault IsFault held status =
    (fault : EnrollFault) × IsFault fault × (enroll_number fault ≡ status)
    × HoldsText (enroll_fault_line fault) held

-- At 0 what is made is held, at 3 and 7 the line of a fault is, and at 4 memory was refused, and nothing is
-- held.
abbrev pub IsHeld : (Kept → Type 0) → (EnrollFault → Type 0) → Option Kept → ℕ → Type 0
IsHeld Is IsFault held status =
    (status ≡ 0) × HoldsSuch Is held
    ⊎ (HoldsEnrollFault IsFault held status
    ⊎ ((status ≡ 4) × (held ≡ None)))

-- what is held is this, or the line of this fault is
abbrev pub MakesGiven : Result (List ℕ × List Fact) EnrollFault → Option Kept → ℕ → Type 0
MakesGiven given held status =
    IsHeld (λ kept. given ≡ Ok (parts_of kept)) (λ fault. given ≡ Err fault) held status

-- ---- from numbers

-- the height of the trees of the sets, if the version is 1 or 2, and there are at most 20 levels
abbrev pub height_in : ℕ → ℕ → Option TreeHeight
height_in version levels =
    if nat_le levels most_levels
    then (if version == 1 then Some Four else if version == 2 then Some Six else None)
    else None

-- who proposes: each node in its turn, unless the number is 0
abbrev pub proposer_in : ℕ → Proposer
proposer_in turns = if turns == 0 then First else Turns

-- there are no such sets, and nothing is held; or this is made of their height
abbrev pub MakesOf : (TreeHeight → Result (List ℕ × List Fact) EnrollFault) → Option TreeHeight
    → Option Kept → ℕ → Type 0
MakesOf given None held status = IsMisuse held status
MakesOf given (Some height) held status = MakesGiven (given height) held status

-- ---- what is made

-- the file of roots of a secret
unfoldable pub file_made : TreeHeight → ℕ → List ℕ → Result (List ℕ × List Fact) EnrollFault
file_made height levels secret = do
  file ← enrolled height levels secret
  Ok (file, [])

-- the line of the identity over roots
unfoldable pub identity_made : List ℕ → Result (List ℕ × List Fact) EnrollFault
identity_made roots = do
  line ← identity_line roots
  Ok (line, [])

-- the system of a text and these choices, with its id
unfoldable pub system_made : TreeHeight → Proposer → ℕ → List ℕ → List ℕ
    → Result (List ℕ × List Fact) EnrollFault
system_made height proposer levels context text = do
  made ← system_given height proposer levels context text
  Ok (made.0, system_fact 0 0 made.1 ∷ [])

-- the admission of the set of a run, with the run's number and the id of the system
unfoldable pub admission_made : ℕ → List ℕ → List NodeRoots → Result (List ℕ × List Fact) EnrollFault
admission_made run system files = do
  made ← admission_given run system files
  Ok (made.0, system_fact 0 run made.1 ∷ [])

-- the number of each file's node is below 16
abbrev pub are_nodes : List SmRoots → Bool
are_nodes files = list_all (λ f. nat_lt f.node 16) files

-- the node of a file, and the file's bytes
abbrev pub given_file : SmRoots → ℕ × List ℕ
given_file f = (f.node, f.roots.now)

abbrev pub read_file : NodeRoots → ℕ × List ℕ
read_file f = (f.node, f.bytes.items)

-- this is the admission that some files with these nodes and bytes give
pub record IsAdmission (run : ℕ) (system : List ℕ) (files : List SmRoots) (kept : Kept) : Type 0 where
  pub read : List NodeRoots
  pub same : map read_file read ≡ map given_file files
  pub made : admission_made run system read ≡ Ok (parts_of kept)

-- such files give no admission, by this fault
pub record IsAdmissionFault (run : ℕ) (system : List ℕ) (files : List SmRoots) (fault : EnrollFault)
    : Type 0 where
  pub read : List NodeRoots
  pub same : map read_file read ≡ map given_file files
  pub fails : admission_made run system read ≡ Err fault

-- the number of some file's node is no node's, and nothing is held; or the admission of the files is made
abbrev pub MakesAdmission : ℕ → List ℕ → List SmRoots → Option Kept → ℕ → Type 0
MakesAdmission run system files held status =
    (are_nodes files ≡ false) × IsMisuse held status
    ⊎ (are_nodes files ≡ true)
    × IsHeld (IsAdmission run system files) (IsAdmissionFault run system files) held status

-- the one run with this number of those of a set
abbrev pub numbered : ℕ → AdmittedRuns → List RunTold
numbered run admitted = map told_run (filter (λ r. r.number == run) admitted.runs.items)

-- The header of the run, which the bytes admit in the system that is asked for, with the facts of the run.
pub record IsAdmitted (run : ℕ) (wanted : Option (List ℕ)) (bytes : List ℕ) (kept : Kept) : Type 0 where
  pub made : Made
  pub header : IsAdmittedHeader run bytes made
  pub admitted : AdmittedRuns
  pub are : AreAdmitted wanted bytes admitted
  pub parts : parts_of kept ≡ (made.bytes.items, facts_of admitted.system (numbered run admitted))

-- why there is no header of the run in the system that is asked for
abbrev pub IsAdmitFault : ℕ → Option (List ℕ) → List ℕ → EnrollFault → Type 0
IsAdmitFault run wanted bytes fault = IsHeaderFault run bytes fault ⊎ IsRunsFault wanted bytes fault

-- The id is none, and nothing is held; or the header of the run is made.
abbrev pub MakesHeader : ℕ → Option (Option (List ℕ)) → List ℕ → Option Kept → ℕ → Type 0
MakesHeader run None bytes held status = IsMisuse held status
MakesHeader run (Some wanted) bytes held status =
    IsHeld (IsAdmitted run wanted bytes) (IsAdmitFault run wanted bytes) held status
