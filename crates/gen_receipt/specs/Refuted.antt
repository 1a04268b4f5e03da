-- What answers a receipt that has another decision than the log of its general: a head that is not that of
-- the log, or the last texts of the receipt and of the log, with one hash.
use Rattle.std.specs.Prelude.{ℕ, ◌≡◌, List, [], ◌∷◌, ◌++◌}
use Rattle.gen_net.specs.Header.{RunHeader}
use Rattle.gen_log.specs.declared.entries.Entry.{Entry}
use Rattle.gen_log.specs.Log.{RunLog}
use Rattle.gen_convict.specs.Accused.{TextVerifies}
use Rattle.gen_ots.specs.Colliding.{AreColliding}
use Rattle.gen_convict.specs.Refuting.{HasText, Refutation, Forged, Collision}
use Rattle.gen_receipt.specs.declared.receipts.Receipt.{Receipt}
use Rattle.gen_receipt.specs.Receipts.{IsReceiptOf, decide_in, last_text, head_of, head_shown}

-- the receipt has the decision of the log: the log ends with its DECIDE
abbrev pub HasDecisionOf : RunLog → Receipt → Type 0
HasDecisionOf log r = (before : List Entry) × (log.entries ≡ before ++ decide_in r ∷ [])

-- two receipts have one head, and what is hashed for the links after their DECIDEs differs: the last texts
-- collide
pub record LastTextsCollide (r s : Receipt) : Type 0 where
  pub heads : head_of r ≡ head_of s
  pub texts : AreColliding (last_text r) (last_text s)

-- the strings are the last text of the receipt and that of the receipt that the own log gives, and they
-- collide
pub record IsReceiptCollision (h : RunHeader) (r : Receipt) (own : RunLog) (a b : List ℕ) : Type 0 where
  pub given : Receipt
  pub of_log : IsReceiptOf h r.general own given
  pub first : a ≡ last_text r
  pub second : b ≡ last_text given
  pub collide : LastTextsCollide r given

-- the answer to the receipt: its head, which verifies as the general's and isn't the head of the general's
-- own log, or the last texts of the receipt and of that log, which collide
abbrev pub IsAnswerToReceipt : RunHeader → Receipt → RunLog → Refutation → Type 0
IsAnswerToReceipt h r own (Forged text) =
    (text ≡ head_shown r) × TextVerifies h r.general text × (HasText h r.general own text.text → ⊥)
IsAnswerToReceipt h r own (Collision a b) = IsReceiptCollision h r own a b
