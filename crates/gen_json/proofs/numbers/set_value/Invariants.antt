use Rattle.std.proofs.Common.{◌≡◌, ◌++◌, map}
use Rattle.serde_json.specs.View.{view}
use Rattle.gen_json.specs.JsonData.{whole}
use Rattle.gen_json.proofs.numbers.set_value.Given as goal

abbrev pub invariant-loop-member : goal.invariant-loop-member
invariant-loop-member g l = map view l.list.items ++ map whole l.member-iterator ≡ map whole l.initial.member-iterator
