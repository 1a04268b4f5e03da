-- Receipts: the end of a log, which shows the decision of the general that keeps it.
use Rattle.std.specs.Prelude.{ℕ, ◌≡◌, ◌<◌, ◌^◌, List, [], ◌∷◌, ◌++◌, length, Contains, Ok}
use Rattle.sha2.specs.Sha256.{sha256}
use Rattle.gen_tree.specs.Signatures.{Verifies}
use Rattle.gen_net.specs.Header.{RunHeader, height_of, root_of}
use Rattle.gen_chain.specs.declared.statements.HeadText.{HeadText}
use Rattle.gen_chain.specs.Leaves.{leaf_of_head}
use Rattle.gen_chain.specs.Texts.{head_digest}
use Rattle.gen_log.specs.declared.entries.Entry.{Entry}
use Rattle.gen_log.specs.declared.entries.Entry.TheVariants.{Decide}
use Rattle.gen_log.specs.Entry.{IsEntryOf}
use Rattle.gen_log.specs.Links.{link_over}
use Rattle.gen_log.specs.Log.{RunLog}
use Rattle.gen_log.specs.LogReading.{log_of}
use Rattle.gen_local.specs.declared.texts.SignedText.{SignedText}
use Rattle.gen_local.specs.declared.texts.Text.TheVariants.{OfHead}
use Rattle.gen_convict.specs.Evidence.{IsSignature}
use Rattle.gen_convict.specs.LinkTexts.{link_text}
use Rattle.gen_receipt.specs.declared.receipts.Receipt.{Receipt}

-- the DECIDE of the receipt
abbrev pub decide_in : Receipt → Entry
decide_in r = Decide r.orders r.order

-- the bytes that are hashed for the link after DECIDE, and that link
abbrev pub last_text : Receipt → List ℕ
last_text r = link_text r.link (decide_in r)

abbrev pub last_link : Receipt → List ℕ
last_link r = sha256 (last_text r)

-- the head of the receipt: its general, its number of entries, and the link after its DECIDE
abbrev pub head_of : Receipt → HeadText
head_of r = record { general = r.general; entries = r.entries; last_link = last_link r }

-- the head of the receipt as a text of its general, with its signature
abbrev pub head_shown : Receipt → SignedText
head_shown r = record { signer = r.general; text = OfHead (head_of r); signature = r.signature }

-- the signature of the receipt's head verifies under the root of its general and the leaf of heads
abbrev pub ReceiptHolds : RunHeader → Receipt → Type 0
ReceiptHolds h r =
    Verifies (root_of h r.general) (height_of h) (leaf_of_head h) (head_digest h (head_of r)) r.signature

-- the receipt can be one of this run: its general and its DECIDE are the network's, and its fields have their
-- lengths
pub record IsReceipt (h : RunHeader) (r : Receipt) : Type 0 where
  pub general : r.general < h.network.generals
  pub entries : r.entries < 2 ^ 64
  pub link : length r.link ≡ 32
  pub decide : IsEntryOf h (decide_in r)
  pub signature : IsSignature h r.signature

-- each of the receipts can be one of the run
abbrev pub AreReceipts : RunHeader → List Receipt → Type 0
AreReceipts h receipts = (r : Receipt) → Contains receipts r → IsReceipt h r

-- The receipt is the one that the log gives as this general's. The log ends with the DECIDE of the receipt,
-- the link is that over the entries before it, and the signature is that of the head.
pub record IsReceiptOf (h : RunHeader) (g : ℕ) (log : RunLog) (r : Receipt) : Type 0 where
  pub general : r.general ≡ g
  pub before : List Entry
  pub ends : log.entries ≡ before ++ decide_in r ∷ []
  pub entries : r.entries ≡ length log.entries
  pub link : r.link ≡ link_over h g before
  pub signature : r.signature ≡ log.head

-- the bytes read as a log, and the receipt is the one that it gives as this general's
abbrev pub IsReceiptOfBytes : RunHeader → ℕ → List ℕ → Receipt → Type 0
IsReceiptOfBytes h g bytes r = (log : RunLog) × (log_of h bytes ≡ Ok log) × IsReceiptOf h g log r
