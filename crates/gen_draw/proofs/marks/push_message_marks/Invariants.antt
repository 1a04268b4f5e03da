use Rattle.std.proofs.Common.{◌≡◌, ◌++◌, string_bytes, take}
use Rattle.std.specs.List.{flat_map}
use Rattle.gen_draw.specs.Marks.{message_mark}
use Rattle.gen_draw.proofs.marks.push_message_marks.Given as goal

abbrev pub invariant-loop-finding : goal.invariant-loop-finding
invariant-loop-finding l = string_bytes l.out ≡ string_bytes l.fn.out ++ flat_map (message_mark l.grid) (take l.finding-index l.findings)
