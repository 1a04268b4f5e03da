use Rattle.std.proofs.Common.{◌≡◌, ◌++◌, take}
use Rattle.std.specs.List.{flat_map}
use Rattle.gen_receipting.specs.ToldText.{receipt_line}
use Rattle.gen_receipting.proofs.text.push_receipts.Given as goal

abbrev pub invariant-loop-receipt : goal.invariant-loop-receipt
invariant-loop-receipt l = l.text.items ≡ l.fn.text.items ++ flat_map receipt_line (take l.receipt-index l.receipts)
