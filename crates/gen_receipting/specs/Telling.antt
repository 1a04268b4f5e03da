-- What the job receipts makes of its input.
use Rattle.std.specs.Prelude.{ℕ, ◌≡◌, ◌==◌, Bool, not, List, [], ◌∷◌, length, Err}
use Rattle.gen_types.specs.Spelled.{Spells}
use Rattle.gen_net.specs.Header.{RunHeader, run_id_of}
use Rattle.gen_facts.specs.declared.fact.Fact.{Fact}
use Rattle.gen_json.specs.Line.{json_line}
use Rattle.gen_receipt.specs.ReceiptReading.{whole_file}
use Rattle.gen_receipt.specs.ReceiptSpelling.{IsReceiptFile, ReceiptFile, file_spelling}
use Rattle.gen_asked.specs.AskedRuns.{AreAsked}
use Rattle.gen_asked.specs.declared.asked_runs.AskedRuns.{AskedRuns}
use Rattle.gen_asked.specs.declared.forms.Form.{Form}
use Rattle.gen_asked.specs.declared.forms.Form.TheVariants.{Text, Json}
use Rattle.gen_ends.specs.declared.ends.JobFault.{JobFault}
use Rattle.gen_ends.specs.declared.ends.JobFault.TheVariants as faults
use Rattle.gen_receipting.specs.Told.{AreTold}
use Rattle.gen_receipting.specs.ToldData.{told_data}
use Rattle.gen_receipting.specs.ToldFacts.{told_facts}
use Rattle.gen_receipting.specs.ToldText.{told_text}
use Rattle.gen_receipting.specs.declared.told.Told.{Told}

-- The input spells receipts of a run, which is the one that is asked for, and they are answered so.
pub record AnswersReceipts (asked : AskedRuns) (IsAnswer : ReceiptFile → List ℕ → Bool → Type 0)
    (input text : List ℕ) (negative : Bool) : Type 0 where
  pub read : ReceiptFile
  pub spelled : Spells IsReceiptFile file_spelling input read
  pub run : AreAsked asked (run_id_of read.header ∷ [])
  pub answers : IsAnswer read text negative

-- The input spells receipts of a run, and not of the one that is asked for.
pub record AreOfOther (asked : AskedRuns) (input : List ℕ) : Type 0 where
  pub read : ReceiptFile
  pub spelled : Spells IsReceiptFile file_spelling input read
  pub other : AreAsked asked (run_id_of read.header ∷ []) → ⊥

-- the first fault of an input that spells no receipts of a run; that they are of another run; or memory was
-- refused
abbrev pub AreReceiptsFault : AskedRuns → List ℕ → JobFault → Type 0
AreReceiptsFault asked input faults.Memory = Unit {0}
AreReceiptsFault asked input faults.OtherRun = AreOfOther asked input
AreReceiptsFault asked input (faults.Receipt f) = whole_file input ≡ Err f
AreReceiptsFault asked input _ = ⊥

-- what receipts tell, in a form
abbrev pub told_in : Form → RunHeader → Told → List ℕ
told_in Text h t = told_text h t
told_in Json h t = json_line (told_data h t)

-- The text says in a form what the receipts tell. It says no unless they show one order, and no other.
pub record SaysTold (form : Form) (read : ReceiptFile) (text : List ℕ) (negative : Bool) : Type 0 where
  pub told : Told
  pub told_is : AreTold read.header read.receipts told
  pub text_is : text ≡ told_in form read.header told
  pub negative_is : negative ≡ not (length told.shown == 1)

-- the text says in a form what the receipts in the input tell, of the run that is asked for
abbrev pub AreReceiptsTold : Form → AskedRuns → List ℕ → List ℕ → Bool → Type 0
AreReceiptsTold form asked input text negative =
    AnswersReceipts asked (SaysTold form) input text negative

-- The input spells receipts of the run that is asked for, and the facts are those of what they tell.
pub record ReceiptsFacts (asked : AskedRuns) (input : List ℕ) (facts : List Fact) : Type 0 where
  pub read : ReceiptFile
  pub spelled : Spells IsReceiptFile file_spelling input read
  pub run : AreAsked asked (run_id_of read.header ∷ [])
  pub told : Told
  pub told_is : AreTold read.header read.receipts told
  pub facts_are : facts ≡ told_facts read.header told
