-- What words ask for by an admission.
use Rattle.std.specs.Prelude.{ℕ, ◌≡◌, ◌⊎◌, true, false, List, [], ◌∷◌, codes, Option, Some, None, IsSome, unwrap_or, nat_le}
use Rattle.clap.specs.Words.{Row, Text, fault_of, first_of, subcommand_of}
use Rattle.gen_words.specs.CommandLine.{tool}
use Rattle.gen_words.specs.Several.{standards}
use Rattle.gen_words.specs.Systems.{context_asked}
use Rattle.gen_words.specs.declared.admitting.Admitting.{Admitting}
use Rattle.gen_words.specs.declared.systems.SystemsFault.TheVariants.{SystemAlone, AlsoRun, BadSystem}
use Rattle.gen_words.specs.declared.words.WordsFault.{WordsFault}
use Rattle.gen_words.specs.declared.words.WordsFault.TheVariants as faults

-- the texts of the options
abbrev pub admission_word : List Row → Option Text
admission_word rows = first_of (codes "admission") rows

abbrev pub system_word : List Row → Option Text
system_word rows = first_of (codes "system") rows

abbrev pub run_word : List Row → Option Text
run_word rows = first_of (codes "run") rows

-- the word for the first file that is read beside the admission: that of the input, or else of a list of
-- names; it is a minus where no word names either
abbrev pub input_word : List Row → Text
input_word rows =
    unwrap_or (first_of (codes "file") rows)
    (unwrap_or (first_of (codes "files-from") rows) (codes "-"))

-- how many of an admission's file and the input are standard input
abbrev pub standards_of : List Row → Text → ℕ
standards_of rows admission = standards (admission ∷ input_word rows ∷ [])

-- the text spells the id that is there; none is there if there is no text
abbrev pub IsSystemOf : Option Text → Option (List ℕ) → Type 0
IsSystemOf text None = text ≡ None
IsSystemOf text (Some id) = context_asked text ≡ Some id

abbrev pub IsSystemIn : List Row → Option (List ℕ) → Type 0
IsSystemIn rows system = IsSystemOf (system_word rows) system

-- the text of the option spells no id
pub record IsNoSystem (rows : List Row) : Type 0 where
  pub given : IsSome (system_word rows)
  pub none : context_asked (system_word rows) ≡ None

abbrev pub IsSystemFault : List Row → WordsFault → Type 0
IsSystemFault rows (faults.Systems BadSystem) = IsNoSystem rows
IsSystemFault rows _ = ⊥

-- the arguments name this admission, and the id of a system if one is there
pub record NamesAdmission (rows : List Row) (admission : Text) (system : Option (List ℕ)) : Type 0 where
  pub first : admission_word rows ≡ Some admission
  pub alone : run_word rows ≡ None
  pub id : IsSystemIn rows system
  pub once : nat_le (standards_of rows admission) 1 ≡ true

-- the arguments say this of an admission: it is named, or neither option stands
abbrev pub SaysAdmitting : List Row → Option Admitting → Type 0
SaysAdmitting rows None = (admission_word rows ≡ None) × (system_word rows ≡ None)
SaysAdmitting rows (Some a) = NamesAdmission rows a.admission.now a.system

-- the arguments name an admission and no run, and both files are standard input
pub record AreBothStandard (rows : List Row) : Type 0 where
  pub admission : Text
  pub first : admission_word rows ≡ Some admission
  pub alone : run_word rows ≡ None
  pub twice : nat_le (standards_of rows admission) 1 ≡ false

-- the arguments have this fault
abbrev pub IsAdmittingFault : List Row → WordsFault → Type 0
IsAdmittingFault rows (faults.Systems SystemAlone) = (admission_word rows ≡ None) × IsSome (system_word rows)
IsAdmittingFault rows (faults.Systems AlsoRun) = IsSome (admission_word rows) × IsSome (run_word rows)
IsAdmittingFault rows (faults.Systems BadSystem) =
    IsSome (admission_word rows) × (run_word rows ≡ None) × IsNoSystem rows
IsAdmittingFault rows faults.TwoStandard = AreBothStandard rows
IsAdmittingFault rows _ = ⊥

-- the command that words name says this; or they name none
abbrev pub IsSaidBy : Option (Text × List Row) → Option Admitting → Type 0
IsSaidBy None None = Unit {0}
IsSaidBy None (Some admitting) = ⊥
IsSaidBy (Some p) said = SaysAdmitting p.1 said

-- Words ask for this; or they ask for nothing by an admission, or the command line has a fault at them.
abbrev pub AsksByAdmission : List Text → Option Admitting → Type 0
AsksByAdmission words None = fault_of tool words ≡ [] → IsSaidBy (subcommand_of tool words) None
AsksByAdmission words (Some admitting) =
    (fault_of tool words ≡ []) × IsSaidBy (subcommand_of tool words) (Some admitting)

-- the command that words name has this fault
abbrev pub HasAdmittingFault : Option (Text × List Row) → WordsFault → Type 0
HasAdmittingFault None fault = ⊥
HasAdmittingFault (Some p) fault = IsAdmittingFault p.1 fault

-- memory was refused; or the command line has no fault at the words, and the command that they name has this
-- one
abbrev pub IsAdmittingFaultOf : List Text → WordsFault → Type 0
IsAdmittingFaultOf words fault =
    (fault ≡ faults.Memory)
    ⊎ ((fault_of tool words ≡ []) × HasAdmittingFault (subcommand_of tool words) fault)
