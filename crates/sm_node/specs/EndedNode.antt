-- What is left of a node that has ended, and the receipt of its log.
use Rattle.std.specs.Prelude.{ℕ, ◌≡◌, List}
use Rattle.gen_net.specs.Header.{RunHeader}
use Rattle.gen_log.specs.Log.{RunLog, log_spelling}
use Rattle.gen_log.specs.Writing.{LogBytes}
use Rattle.gen_scenario.specs.declared.scenario.Decision.{Decision}
use Rattle.gen_general.specs.Recording.{IsSealed}
use Rattle.gen_receipt.specs.declared.receipts.Receipt.{Receipt}
use Rattle.gen_receipt.specs.ReceiptSpelling.{receipt_spelling}
use Rattle.gen_receipt.specs.Receipts.{IsReceiptOfBytes, ReceiptHolds}

-- the header of the run, the log of the node with its general, and what the node decided
pub record EndedNode : Type 0 where
  pub header : RunHeader
  pub log : LogBytes
  pub decision : Decision

-- the bytes are a lawful log of this run, whose head verifies as its general's
abbrev pub IsSealedLog : RunHeader → LogBytes → Type 0
IsSealedLog h log = (kept : RunLog) × (log.bytes ≡ log_spelling kept) × IsSealed h log.general kept

-- the text is the receipt of this log, as its general's, and the receipt holds
abbrev pub IsOwnReceipt : RunHeader → LogBytes → List ℕ → Type 0
IsOwnReceipt h log text =
    (r : Receipt) × IsReceiptOfBytes h log.general log.bytes r × ReceiptHolds h r
    × (text ≡ receipt_spelling h r)
