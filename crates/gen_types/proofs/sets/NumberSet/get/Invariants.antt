use Rattle.std.proofs.Common.{◌≡◌, ◌≤◌, length, filter}
use Rattle.std.specs.List.{range_with_len}
use Rattle.gen_types.specs.Bits.{has_bit}
use Rattle.gen_types.proofs.sets.NumberSet.get.Given as goal

abbrev pub invariant-loop-number : goal.invariant-loop-number
invariant-loop-number g l = (l.before ≤ l.number) × (l.before ≤ l.index) × (l.before ≡ length (filter (has_bit l.self-inside.bits) (range_with_len 0 l.number)))
