use Rattle.std.proofs.Common.{◌≡◌, ◌++◌, string_bytes}
use Rattle.std.specs.List.{flat_map, range_with_len}
use Rattle.gen_draw.specs.Page.{round_line}
use Rattle.gen_draw.proofs.page.push_rounds.Given as goal

abbrev pub invariant-loop-before : goal.invariant-loop-before
invariant-loop-before l = string_bytes l.out ≡ string_bytes l.fn.out ++ flat_map (round_line l.grid) (range_with_len 1 l.before)
