-- What receipts of a run tell: which of them hold, which orders they show, and which generals they convict.
use Rattle.std.specs.Prelude.{ℕ, ◌≡◌, List}
use Rattle.std.specs.Bool.{Decides}
use Rattle.std.specs.List.{AllZip}
use Rattle.gen_types.specs.Ascending.{IsListOf}
use Rattle.gen_net.specs.Header.{RunHeader}
use Rattle.gen_scenario.specs.declared.scenario.Decision.{Decision}
use Rattle.gen_receipt.specs.declared.receipts.Receipt.{Receipt}
use Rattle.gen_receipt.specs.Convicting.{IsConvicted}
use Rattle.gen_receipt.specs.Receipts.{ReceiptHolds}
use Rattle.gen_receipt.specs.Shown.{IsShown}
use Rattle.gen_receipting.specs.declared.told.Told.{Told}
use Rattle.gen_receipting.specs.declared.told.ToldReceipt.{ToldReceipt}

-- the decision that a receipt shows
abbrev pub decision_of : Receipt → Decision
decision_of r = record { general = r.general; orders = r.orders; order = r.order }

-- what is told of a receipt: the decision that it shows, the number of entries of the log, and whether it
-- holds
pub record IsToldOf (h : RunHeader) (r : Receipt) (t : ToldReceipt) : Type 0 where
  pub decision : t.decision ≡ decision_of r
  pub entries : t.entries ≡ r.entries
  pub holds : Decides t.holds (ReceiptHolds h r)

-- what is told of receipts: of each what it tells, the orders that they show, the generals that they convict
pub record AreTold (h : RunHeader) (receipts : List Receipt) (t : Told) : Type 0 where
  pub each : AllZip (IsToldOf h) receipts t.receipts.items
  pub shown : IsListOf t.shown (IsShown h receipts)
  pub convicted : IsListOf t.convicted (IsConvicted h receipts)
