-- What the job that tells makes of its input: what a file is, what a name means, or what the lines of a text
-- mean.
use Rattle.std.specs.Prelude.{ℕ, ◌≡◌, Bool, true, false, not, List, [], Option, Some, None}
use Rattle.gen_file.specs.Kinds.{file_kind}
use Rattle.gen_campaign.specs.WholeFile.{is_whole_as}
use Rattle.gen_show.specs.Showing.{IsTextAs}
use Rattle.gen_json_files.specs.ShowingLines.{IsJsonAs}
use Rattle.gen_explain.specs.Table.{words}
use Rattle.gen_explain.specs.Worded.{explained, worded}
use Rattle.gen_ends.specs.declared.ends.JobFault.{JobFault}
use Rattle.gen_ends.specs.declared.ends.JobFault.TheVariants as faults
use Rattle.gen_asked.specs.declared.forms.Form.{Form}
use Rattle.gen_asked.specs.declared.forms.Form.TheVariants.{Text, Json}
use Rattle.gen_asked.specs.declared.telling.Telling.{Telling}
use Rattle.gen_asked.specs.declared.telling.Telling.TheVariants as tellings

-- the text says in a form, line by line, what the bytes are
abbrev pub SaysFile : Form → List ℕ → List ℕ → Type 0
SaysFile Text input text = IsTextAs (file_kind input) input text
SaysFile Json input text = IsJsonAs (file_kind input) input text

-- so it does, and says no if the bytes are no whole file of their kind
abbrev pub TellsFile : Form → List ℕ → List ℕ → Bool → Type 0
TellsFile form input text negative =
    SaysFile form input text × (negative ≡ not (is_whole_as (file_kind input) input))

-- the text is what was found; or nothing was found, there is no text, and that says no
abbrev pub TellsFound : Option (List ℕ) → List ℕ → Bool → Type 0
TellsFound (Some found) text negative = (text ≡ found) × (negative ≡ false)
TellsFound None text negative = (text ≡ []) × (negative ≡ true)

-- what is told of an input: what the file is, what the name means, or the text with what its lines mean
abbrev pub IsTold : Telling → List ℕ → List ℕ → Bool → Type 0
IsTold tellings.File input text negative = TellsFile Text input text negative
IsTold tellings.Name input text negative = TellsFound (explained words input) text negative
IsTold tellings.Text input text negative = (text ≡ worded words input) × (negative ≡ false)

-- memory was refused: there is no other fault
abbrev pub IsMemory : JobFault → Type 0
IsMemory faults.Memory = Unit {0}
IsMemory _ = ⊥
