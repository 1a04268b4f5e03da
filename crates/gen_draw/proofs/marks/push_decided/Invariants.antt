use Rattle.std.proofs.Common.{◌≡◌, ◌++◌, string_bytes, take}
use Rattle.std.specs.List.{flat_map}
use Rattle.gen_draw.specs.Marks.{decided_at}
use Rattle.gen_draw.proofs.marks.push_decided.Given as goal

abbrev pub invariant-loop-one : goal.invariant-loop-one
invariant-loop-one l = string_bytes l.out ≡ string_bytes l.fn.out ++ flat_map (decided_at l.general) (take l.one-index l.decided)
