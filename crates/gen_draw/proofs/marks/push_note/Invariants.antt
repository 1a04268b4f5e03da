use Rattle.std.proofs.Common.{◌≡◌, ◌++◌, string_bytes, take}
use Rattle.std.specs.List.{flat_map}
use Rattle.gen_draw.specs.Marks.{found_at}
use Rattle.gen_draw.proofs.marks.push_note.Given as goal

abbrev pub invariant-loop-finding : goal.invariant-loop-finding
invariant-loop-finding l = string_bytes l.out ≡ string_bytes l.initial.out ++ flat_map (found_at l.general) (take l.finding-index l.findings)
