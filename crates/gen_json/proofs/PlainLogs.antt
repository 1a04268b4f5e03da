-- What is printed of the decisions of logs has no floats, and nests a few levels deep.
use Rattle.std.proofs.Common.{◌≡◌, ℕ, ◌-◌, ◌≤◌, ◌++◌, List, [], ◌∷◌, false, length, refl, arith}
use Rattle.std.specs.Prelude.{Option, Some, None, Result, Ok, Err, slice_get}
use Rattle.std.specs.List.{flat_map}
use Rattle.serde_json.specs.Data.{Data, depth, items_depth}
use Rattle.serde_json.specs.View.{items_of}
use Rattle.serde_json.specs.Written.{has_float, items_have_float}
use Rattle.gen_net.specs.Header.{RunHeader}
use Rattle.gen_log.specs.Log.{RunLog}
use Rattle.gen_log.specs.LogReading.{log_of}
use Rattle.gen_log.specs.Writing.{LogBytes}
use Rattle.gen_log.specs.declared.entries.Entry.{Entry}
use Rattle.gen_log.specs.declared.entries.Entry.TheVariants.{Start, Sign, Send, Recv, Decide}
use Rattle.gen_log.specs.declared.fault.LogFault.{LogFault}
use Rattle.gen_json.specs.DecidedLogs.{decided_data, decision_read, exhibit_decision, last_order, log_decision_data, logs_data, order_of}

order_plain : (e : Entry) → has_float (order_of e) ≡ false
order_plain (Start general own) = refl
order_plain (Sign order path signature) = refl
order_plain (Send to order path) = refl
order_plain (Recv from chain) = refl
order_plain (Decide orders order) = refl

order_shallow : (e : Entry) → depth (order_of e) ≤ 0
order_shallow (Start general own) = omega arith
order_shallow (Sign order path signature) = omega arith
order_shallow (Send to order path) = omega arith
order_shallow (Recv from chain) = omega arith
order_shallow (Decide orders order) = omega arith

last_plain : (e : Option Entry) → has_float (last_order e) ≡ false
last_plain None = refl
last_plain (Some e) = order_plain e

last_shallow : (e : Option Entry) → depth (last_order e) ≤ 0
last_shallow None = omega arith
last_shallow (Some e) = order_shallow e

pub decided_plain : (entries : List Entry) → has_float (decided_data entries) ≡ false
decided_plain entries = unfold decided_data in last_plain (slice_get entries (length entries - 1))

decision_plain : (general : ℕ) (log : RunLog) → has_float (log_decision_data general log) ≡ false
decision_plain general log = rw (decided_plain log.entries) refl

decided_shallow : (entries : List Entry) → depth (decided_data entries) ≤ 0
decided_shallow entries = unfold decided_data in last_shallow (slice_get entries (length entries - 1))

decision_shallow : (general : ℕ) (log : RunLog) → depth (log_decision_data general log) ≤ 1
decision_shallow general log = omega (arith, decided_shallow log.entries)

-- one exhibit in front of others
plain_before : (general : ℕ) (r : Result RunLog LogFault) (ds : List Data) → items_have_float (items_of ds) ≡ false
    → items_have_float (items_of (decision_read general r ++ ds)) ≡ false
plain_before general (Ok log) ds h = rw (decision_plain general log) h
plain_before general (Err fault) ds h = h

shallow_before : (general : ℕ) (r : Result RunLog LogFault) (ds : List Data) → items_depth (items_of ds) ≤ 1
    → items_depth (items_of (decision_read general r ++ ds)) ≤ 1
shallow_before general (Ok log) ds h = omega (arith, decision_shallow general log, h)
shallow_before general (Err fault) ds h = h

all_plain : (h : RunHeader) (xs : List LogBytes) → items_have_float (items_of (flat_map (exhibit_decision h) xs)) ≡ false
all_plain h [] = refl
all_plain h (x ∷ xs) = plain_before x.general (log_of h x.bytes) (flat_map (exhibit_decision h) xs) (all_plain h xs)

all_shallow : (h : RunHeader) (xs : List LogBytes) → items_depth (items_of (flat_map (exhibit_decision h) xs)) ≤ 1
all_shallow h [] = omega arith
all_shallow h (x ∷ xs) = shallow_before x.general (log_of h x.bytes) (flat_map (exhibit_decision h) xs) (all_shallow h xs)

pub logs_plain : (h : RunHeader) (xs : List LogBytes) → has_float (logs_data h xs) ≡ false
logs_plain h xs = all_plain h xs

pub logs_shallow : (h : RunHeader) (xs : List LogBytes) → depth (logs_data h xs) ≤ 2
logs_shallow h xs = omega (arith, all_shallow h xs)
