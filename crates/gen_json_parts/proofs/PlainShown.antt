-- What is shown has no floats.
use Rattle.std.proofs.Common.{◌≡◌, ℕ, List, false, refl}
use Rattle.serde_json.specs.Written.{has_float}
use Rattle.gen_net.specs.Header.{RunHeader}
use Rattle.gen_log.specs.declared.entries.Entry.{Entry}
use Rattle.gen_log.specs.declared.fault.LogFault.{LogFault}
use Rattle.gen_log.specs.Log.{RunLog}
use Rattle.gen_json.specs.JsonData.{digits_data, pair_data}
use Rattle.gen_json.proofs.Plain.{items_plain, numbers_plain}
use Rattle.gen_json.proofs.PlainLogs.{decided_plain}
use Rattle.gen_json_parts.specs.BundleData.{end_data, faulty_data, place_data, walk_data}
use Rattle.gen_json_parts.specs.FaultData.{fault_data}
use Rattle.gen_json_parts.specs.HeaderData.{equal_roots_data, header_data}
use Rattle.gen_json_parts.specs.LogData.{head_data, log_data, unreadable_data}

pub header_plain : (name : List ℕ) (h : RunHeader) → has_float (header_data name h) ≡ false
header_plain name h =
    unfold header_data in
    rw (items_plain pair_data (λ e. refl) h.network.edges, items_plain digits_data (λ root. refl) h.roots) refl

pub equal_roots_plain : (pair : ℕ × ℕ) → has_float (equal_roots_data pair) ≡ false
equal_roots_plain pair = unfold equal_roots_data in refl

pub log_plain : (general at size : ℕ) (log : RunLog) → has_float (log_data general at size log) ≡ false
log_plain general at size log = unfold log_data in refl

pub unreadable_plain : (general at size : ℕ) (fault : LogFault) → has_float (unreadable_data general at size fault) ≡ false
unreadable_plain general at size fault = unfold unreadable_data in refl

pub head_plain : (general at : ℕ) (entries : List Entry) → has_float (head_data general at entries) ≡ false
head_plain general at entries = unfold head_data in rw (decided_plain entries) refl

pub faulty_plain : (faulty : List ℕ) → has_float (faulty_data faulty) ≡ false
faulty_plain faulty = unfold faulty_data in rw (numbers_plain faulty) refl

pub walk_plain : (walk : List ℕ) → has_float (walk_data walk) ≡ false
walk_plain walk = unfold walk_data in rw (numbers_plain walk) refl

pub end_plain : (name : List ℕ) → has_float (end_data name) ≡ false
end_plain name = unfold end_data in refl

pub place_plain : (place at : ℕ) → has_float (place_data place at) ≡ false
place_plain place at = unfold place_data in refl

pub fault_plain : (name : List ℕ) (at : ℕ) → has_float (fault_data name at) ≡ false
fault_plain name at = unfold fault_data in refl
