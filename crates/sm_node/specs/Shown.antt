-- What is told of the order that receipts show, and the number of each answer.
use Rattle.std.specs.Prelude.{ℕ, ◌≡◌, List, Ok, Err}
use Rattle.gen_net.specs.Header.{run_id_of}
use Rattle.gen_receipt.specs.declared.receipt_fault.ReceiptFault.{ReceiptFault}
use Rattle.gen_receipt.specs.ReceiptReading.{whole_file}
use Rattle.gen_receipt.specs.ReceiptSpelling.{ReceiptFile}
use Rattle.gen_receipt.specs.Shown.{IsOnlyShown}
use Rattle.sm_node.specs.declared.shown.ShownReply.{ShownReply}
use Rattle.sm_node.specs.declared.shown.ShownReply.TheVariants.{Shown, NotShown, Fault, Memory, OtherRun}
use Rattle.sm_node.specs.Faults.{receipt_number}
use Rattle.sm_node.specs.Starting.{no_order}

-- the number of an answer
abbrev pub shown_status : ShownReply → ℕ
shown_status Shown = 0
shown_status NotShown = 1
shown_status Fault = 3
shown_status Memory = 4
shown_status OtherRun = 7

-- the returned number is that of an answer, and what goes with the answer holds
abbrev pub IsAnswered : (ShownReply → Type 0) → ℕ → Type 0
IsAnswered Holds status = (told : ShownReply) × (status ≡ shown_status told) × Holds told

-- the bytes are this file of receipts, which is of the run with this id
pub record AreOfRun (run_id bytes : List ℕ) (f : ReceiptFile) : Type 0 where
  pub read : whole_file bytes ≡ Ok f
  pub run : run_id_of f.header ≡ run_id

-- the only order that the receipts show is told; or no order is told, and the answer says why
abbrev pub TellsShown : List ℕ → List ℕ → ℕ → ℕ → ShownReply → Type 0
TellsShown run_id bytes order fault Shown =
    (fault ≡ 0) × ((f : ReceiptFile) × AreOfRun run_id bytes f × IsOnlyShown f.header f.receipts order)
TellsShown run_id bytes order fault NotShown =
    (fault ≡ 0) × (order ≡ no_order)
    × ((f : ReceiptFile) × AreOfRun run_id bytes f
    × ((other : ℕ) → IsOnlyShown f.header f.receipts other → ⊥))
TellsShown run_id bytes order fault OtherRun =
    (fault ≡ 0) × (order ≡ no_order)
    × ((f : ReceiptFile) × (whole_file bytes ≡ Ok f) × (run_id_of f.header ≡ run_id → ⊥))
TellsShown run_id bytes order fault Fault =
    (order ≡ no_order)
    × ((f : ReceiptFault) × (whole_file bytes ≡ Err f) × (fault ≡ receipt_number f))
TellsShown run_id bytes order fault Memory = (fault ≡ 0) × (order ≡ no_order)
