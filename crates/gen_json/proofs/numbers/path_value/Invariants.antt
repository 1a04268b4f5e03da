use Rattle.std.proofs.Common.{◌≡◌, map, take}
use Rattle.serde_json.specs.View.{view}
use Rattle.gen_json.specs.JsonData.{whole}
use Rattle.gen_json.proofs.numbers.path_value.Given as goal

abbrev pub invariant-loop-general : goal.invariant-loop-general
invariant-loop-general l = map view l.list.items ≡ map whole (take l.general-index l.generals)
