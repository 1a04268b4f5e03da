use Rattle.std.proofs.Common.{◌≡◌, map, take}
use Rattle.serde_json.specs.View.{view}
use Rattle.gen_json.specs.JsonData.{digits_data}
use Rattle.gen_json.proofs.numbers.all_digits_value.Given as goal

abbrev pub invariant-loop-bytes : goal.invariant-loop-bytes
invariant-loop-bytes l = map view l.list.items ≡ map digits_data (take l.bytes-index l.all)
