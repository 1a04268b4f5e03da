-- The one spelling of a receipt in bytes, and of a file of receipts.
use Rattle.std.specs.Prelude.{List, [], ℕ, ◌≢◌, ◌∷◌, ◌++◌}
use Rattle.std.specs.Int.{w64, to_be_bytes}
use Rattle.std.specs.List.{flat_map}
use Rattle.gen_net.specs.declared.marks.Marks.{Marks}
use Rattle.gen_net.specs.Front.{front_spelling}
use Rattle.gen_net.specs.Header.{RunHeader, IsHeader}
use Rattle.gen_log.specs.Fields.{set_spelling}
use Rattle.gen_receipt.specs.declared.receipt_reading.RunReceipts.{RunReceipts}
use Rattle.gen_receipt.specs.declared.receipts.Receipt.{Receipt}
use Rattle.gen_receipt.specs.Receipts.{AreReceipts, IsReceipt}

-- the first four bytes as a number, big-endian: `SMR1` before a header of version 1, `SMR2` before one of
-- version 2
abbrev pub receipt_marks : Marks
receipt_marks = record { one = 1397576241; two = 1397576242 }

-- the general, the number of entries in eight bytes, the link, the set of orders, the order, the signature
abbrev pub fields_spelling : Receipt → List ℕ
fields_spelling r =
    r.general
    ∷ (to_be_bytes w64 r.entries ++ (r.link ++ (set_spelling r.orders ++ (r.order ∷ r.signature))))

-- the mark, the header, and the fields
abbrev pub receipt_spelling : RunHeader → Receipt → List ℕ
receipt_spelling h r = front_spelling receipt_marks h ++ fields_spelling r

-- a header, and a receipt under it
pub record HeaderAndReceipt : Type 0 where
  pub header : RunHeader
  pub receipt : Receipt

-- the header is lawful, and the receipt can be one of its run
abbrev pub IsWhole : HeaderAndReceipt → Type 0
IsWhole x = IsHeader x.header × IsReceipt x.header x.receipt

abbrev pub whole_spelling : HeaderAndReceipt → List ℕ
whole_spelling x = receipt_spelling x.header x.receipt

-- ---- files

-- what a file of receipts says: the header of a run, and receipts of it
pub record ReceiptFile : Type 0 where
  pub header : RunHeader
  pub receipts : List Receipt

-- the header is lawful, and there is at least one receipt, of which each can be one of the run
pub record IsReceiptFile (f : ReceiptFile) : Type 0 where
  pub header : IsHeader f.header
  pub some : f.receipts ≢ []
  pub each : AreReceipts f.header f.receipts

-- the spellings of the receipts one behind another
abbrev pub receipts_spelling : RunHeader → List Receipt → List ℕ
receipts_spelling h receipts = flat_map (receipt_spelling h) receipts

abbrev pub file_spelling : ReceiptFile → List ℕ
file_spelling f = receipts_spelling f.header f.receipts

-- what the receipts say that a call reads
abbrev pub file_of : RunReceipts → ReceiptFile
file_of x = record { header = x.header; receipts = x.receipts.items }
