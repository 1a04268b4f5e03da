-- What the shown logs say was decided, as JSON.
use Rattle.std.specs.Prelude.{ℕ, ◌-◌, List, [], ◌∷◌, codes, length, slice_get, Option, Some, None, Result, Ok, Err}
use Rattle.std.specs.List.{flat_map}
use Rattle.serde_json.specs.Data.{Data, array, null}
use Rattle.serde_json.specs.View.{items_of}
use Rattle.gen_net.specs.Header.{RunHeader}
use Rattle.gen_log.specs.declared.entries.Entry.{Entry}
use Rattle.gen_log.specs.declared.entries.Entry.TheVariants.{Start, Sign, Send, Recv, Decide}
use Rattle.gen_log.specs.Log.{RunLog}
use Rattle.gen_log.specs.LogReading.{log_of}
use Rattle.gen_log.specs.Writing.{LogBytes}
use Rattle.gen_log.specs.declared.fault.LogFault.{LogFault}
use Rattle.gen_json.specs.JsonData.{fields, whole}

-- the order of a DECIDE; null of another entry
abbrev pub order_of : Entry → Data
order_of (Start general own) = null
order_of (Sign order path signature) = null
order_of (Send to order path) = null
order_of (Recv from chain) = null
order_of (Decide orders order) = whole order

-- the order of the entry at the end
abbrev pub last_order : Option Entry → Data
last_order None = null
last_order (Some e) = order_of e

-- the order of the DECIDE with which a log ends
unfoldable pub decided_data : List Entry → Data
decided_data entries = last_order (slice_get entries (length entries - 1))

-- a general, and the order of the DECIDE with which the log that is shown as this general's ends; null if it
-- ends with none
abbrev pub log_decision_data : ℕ → RunLog → Data
log_decision_data general log = fields (
    (codes "general", whole general) ∷ (codes "order", decided_data log.entries) ∷ [])

-- what a log that reads decided; nothing of bytes that are no log
abbrev pub decision_read : ℕ → Result RunLog LogFault → List Data
decision_read general (Ok log) = log_decision_data general log ∷ []
decision_read general (Err fault) = []

abbrev pub exhibit_decision : RunHeader → LogBytes → List Data
exhibit_decision h x = decision_read x.general (log_of h x.bytes)

-- what each log that reads decided, in the order of the exhibits
abbrev pub logs_data : RunHeader → List LogBytes → Data
logs_data h exhibits = array (items_of (flat_map (exhibit_decision h) exhibits))
