-- What receipts tell, as JSON.
use Rattle.std.specs.Prelude.{[], ◌∷◌, codes}
use Rattle.serde_json.specs.Data.{Data, boolean, string}
use Rattle.gen_net.specs.Header.{RunHeader, run_id_of}
use Rattle.gen_json.specs.JsonData.{whole, list_of, numbers_data, digits_data, fields, json_version, network_data}
use Rattle.gen_receipting.specs.declared.told.Told.{Told}
use Rattle.gen_receipting.specs.declared.told.ToldReceipt.{ToldReceipt}

-- a receipt: the decision that it shows, the number of entries of its log, and whether it holds
abbrev pub receipt_data : ToldReceipt → Data
receipt_data t = fields (
    (codes "decides", whole t.decision.order)
    ∷ (codes "entries", whole t.entries)
    ∷ (codes "general", whole t.decision.general)
    ∷ (codes "holds", boolean t.holds)
    ∷ (codes "set", numbers_data t.decision.orders)
    ∷ [])

-- what receipts tell, with the run id and the numbers of the network
abbrev pub told_data : RunHeader → Told → Data
told_data h t = fields (
    (codes "convicted", numbers_data t.convicted)
    ∷ (codes "format", string (codes "receipts"))
    ∷ (codes "network", network_data h.network)
    ∷ (codes "receipts", list_of receipt_data t.receipts.items)
    ∷ (codes "run", digits_data (run_id_of h))
    ∷ (codes "shown", numbers_data t.shown)
    ∷ (codes "version", whole json_version)
    ∷ [])
