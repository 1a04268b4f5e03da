-- How the program answers words that ask for no job.
use Rattle.std.specs.Prelude.{◌≡◌, ℕ, ◌⊎◌}
use Rattle.clap.specs.declared.error.Error.{Error}
use Rattle.clap.specs.declared.error.kind.ErrorKind.TheVariants.{DisplayHelp, DisplayVersion}
use Rattle.clap.specs.Words.{kind_of}
use Rattle.gen_ends.specs.declared.ends.JobEnd.{JobEnd}
use Rattle.gen_ends.specs.declared.ends.JobEnd.TheVariants.{Done, Failed}
use Rattle.gen_ends.specs.declared.ends.JobFault.TheVariants as faults
use Rattle.gen_words.specs.declared.words.WordsFault.{WordsFault}
use Rattle.gen_words.specs.declared.words.WordsFault.TheVariants.{Memory, NotText, NoCommand, Words}
use Rattle.gen_words.specs.declared.words.WordsFault.TheVariants.{BadCapacity, BadWorkers, BadGeneral, BadSlot, BadRun, BadFaulty, BadLog, TwoStandard, Systems}
use Rattle.gen_ends.specs.Ends.{status_of}

-- the exit status for words that ask for no job
abbrev pub words_status : ℕ
words_status = 2

-- the status is one of the program: that for words that ask for no job, or that of a job's end
abbrev pub IsStatus : ℕ → Type 0
IsStatus status = (status ≡ words_status) ⊎ ((end : JobEnd) × (status ≡ status_of end))

-- the words ask for help or for the version
abbrev pub AsksToShow : Error → Type 0
AsksToShow e = (kind_of e ≡ DisplayHelp) ⊎ (kind_of e ≡ DisplayVersion)

-- the status after showing help or the version: done, or the write failed
abbrev pub IsShown : ℕ → Type 0
IsShown status = (status ≡ status_of Done) ⊎ (status ≡ status_of (Failed faults.Write))

-- the status after blaming the words: that for words that ask for no job, or memory for the line was refused
abbrev pub IsBlamed : ℕ → Type 0
IsBlamed status = (status ≡ words_status) ⊎ (status ≡ status_of (Failed faults.Memory))

-- the status is one for this fault of the words
abbrev pub Refuses : WordsFault → ℕ → Type 0
Refuses Memory status = status ≡ status_of (Failed faults.Memory)
Refuses NotText status = IsBlamed status
Refuses NoCommand status = IsBlamed status
Refuses BadCapacity status = IsBlamed status
Refuses BadWorkers status = IsBlamed status
Refuses BadGeneral status = IsBlamed status
Refuses BadSlot status = IsBlamed status
Refuses BadLog status = IsBlamed status
Refuses TwoStandard status = IsBlamed status
Refuses (Systems inner) status = IsBlamed status
Refuses BadRun status = IsBlamed status
Refuses BadFaulty status = IsBlamed status
Refuses (Words e) status = (AsksToShow e → IsShown status) × ((AsksToShow e → ⊥) → IsBlamed status)
