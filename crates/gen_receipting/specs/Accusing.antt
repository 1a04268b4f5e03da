-- What the job accuse makes of receipts.
use Rattle.std.specs.Prelude.{ℕ, ◌≡◌, Bool, true, false, List, []}
use Rattle.gen_convict.specs.Contradictions.{TwoTexts}
use Rattle.gen_convict.specs.EvidenceSpelling.{evidence_spelling}
use Rattle.gen_receipt.specs.declared.receipts.Receipt.{Receipt}
use Rattle.gen_receipt.specs.Convicting.{AreFirstUnlike, IsConvicted}
use Rattle.gen_receipt.specs.ReceiptSpelling.{ReceiptFile}
use Rattle.gen_receipt.specs.Receipts.{head_shown}
use Rattle.gen_asked.specs.declared.asked_runs.AskedRuns.{AskedRuns}
use Rattle.gen_receipting.specs.Telling.{AnswersReceipts}

-- The text is evidence against the general: the head of its first receipt that holds, and that of the first
-- behind it that holds too and has another head. Otherwise no two receipts convict the general, the text is
-- empty, and it says no.
abbrev pub AccusesBy : ℕ → ReceiptFile → List ℕ → Bool → Type 0
AccusesBy g read text false =
    (r : Receipt) × (s : Receipt) × AreFirstUnlike read.header read.receipts g r s
    × (text ≡ evidence_spelling read.header (record {
      accused = g;
      claim = TwoTexts (head_shown r) (head_shown s);
    }))
AccusesBy g read text true = (IsConvicted read.header read.receipts g → ⊥) × (text ≡ [])

-- the text is the evidence against the general by the receipts in the input, of the run that is asked for
abbrev pub AccusesByReceipts : AskedRuns → ℕ → List ℕ → List ℕ → Bool → Type 0
AccusesByReceipts asked general input text negative =
    AnswersReceipts asked (AccusesBy general) input text negative
