use Rattle.std.proofs.Common.{◌≡◌, ◌++◌, map, string_bytes}
use Rattle.std.specs.List.{flat_map, range_with_len}
use Rattle.gen_convict.specs.Evidence.{told_of}
use Rattle.gen_draw.specs.Marks.{end_line, note_line}
use Rattle.gen_draw.proofs.picture.push_notes.Given as goal

abbrev pub invariant-loop-number : goal.invariant-loop-number
invariant-loop-number l = string_bytes l.out ≡ string_bytes l.initial.out ++ flat_map (end_line l.grid l.decided (map told_of l.convictions)) (range_with_len 0 l.number)

abbrev pub invariant-loop-number-2 : goal.invariant-loop-number-2
invariant-loop-number-2 l = string_bytes l.out ≡ string_bytes l.initial.out ++ flat_map (note_line l.findings) (range_with_len 0 l.number)
