use Rattle.std.proofs.Common.{◌≡◌, ◌++◌, string_bytes}
use Rattle.std.specs.List.{flat_map, range_with_len}
use Rattle.gen_draw.specs.Picture.{line_in}
use Rattle.gen_draw.proofs.picture.push_frame.Given as goal

abbrev pub invariant-loop-number : goal.invariant-loop-number
invariant-loop-number l = string_bytes l.out ≡ string_bytes l.initial.out ++ flat_map (line_in l.net l.faulty) (range_with_len 0 l.number)
