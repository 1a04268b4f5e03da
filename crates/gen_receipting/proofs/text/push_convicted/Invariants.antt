use Rattle.std.proofs.Common.{◌≡◌, ◌++◌}
use Rattle.std.specs.List.{flat_map}
use Rattle.gen_receipting.specs.ToldText.{convicted_line}
use Rattle.gen_receipting.proofs.text.push_convicted.Given as goal

abbrev pub invariant-loop-general : goal.invariant-loop-general
invariant-loop-general l = l.initial.text.items ++ flat_map convicted_line l.initial.general-iterator ≡ l.text.items ++ flat_map convicted_line l.general-iterator
