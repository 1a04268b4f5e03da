use Rattle.std.proofs.Common.{◌≡◌, map, take}
use Rattle.serde_json.specs.View.{view}
use Rattle.gen_json.specs.JsonData.{pair_data}
use Rattle.gen_json.proofs.numbers.pairs_value.Given as goal

abbrev pub invariant-loop-pair : goal.invariant-loop-pair
invariant-loop-pair l = map view l.list.items ≡ map pair_data (take l.pair-index l.pairs)
