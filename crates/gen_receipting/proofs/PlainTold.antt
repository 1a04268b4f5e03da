-- What is printed of receipts has no floats, and nests a few levels deep.
use Rattle.std.proofs.Common.{◌≡◌, ◌≤◌, false, refl, arith}
use Rattle.serde_json.specs.Data.{depth}
use Rattle.serde_json.specs.Written.{has_float}
use Rattle.gen_json.proofs.Plain.{items_plain, items_shallow, numbers_plain, numbers_shallow}
use Rattle.gen_net.specs.Header.{RunHeader}
use Rattle.gen_receipting.specs.ToldData.{receipt_data, told_data}
use Rattle.gen_receipting.specs.declared.told.Told.{Told}
use Rattle.gen_receipting.specs.declared.told.ToldReceipt.{ToldReceipt}

receipt_plain : (t : ToldReceipt) → has_float (receipt_data t) ≡ false
receipt_plain t = rw (numbers_plain t.decision.orders) refl

receipt_shallow : (t : ToldReceipt) → depth (receipt_data t) ≤ 2
receipt_shallow t = omega (arith, numbers_shallow t.decision.orders)

pub told_plain : (h : RunHeader) (t : Told) → has_float (told_data h t) ≡ false
told_plain h t = rw (numbers_plain t.convicted, items_plain receipt_data receipt_plain t.receipts.items, numbers_plain t.shown) refl

pub told_within : (h : RunHeader) (t : Told) → depth (told_data h t) ≤ 127
told_within h t =
    omega (arith, numbers_shallow t.convicted, items_shallow receipt_data 2 receipt_shallow t.receipts.items, numbers_shallow t.shown)
