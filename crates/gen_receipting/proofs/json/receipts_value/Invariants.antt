use Rattle.std.proofs.Common.{◌≡◌, map, take}
use Rattle.serde_json.specs.View.{view}
use Rattle.gen_receipting.specs.ToldData.{receipt_data}
use Rattle.gen_receipting.proofs.json.receipts_value.Given as goal

abbrev pub invariant-loop-receipt : goal.invariant-loop-receipt
invariant-loop-receipt l = map view l.list.items ≡ map receipt_data (take l.receipt-index l.receipts)
