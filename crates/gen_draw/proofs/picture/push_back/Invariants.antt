use Rattle.std.proofs.Common.{◌≡◌, ◌++◌, string_bytes}
use Rattle.std.specs.List.{flat_map, range_with_len}
use Rattle.gen_draw.specs.Page.{legend_line}
use Rattle.gen_draw.proofs.picture.push_back.Given as goal

abbrev pub invariant-loop-order : goal.invariant-loop-order
invariant-loop-order l = string_bytes l.out ≡ string_bytes l.initial.out ++ flat_map (legend_line l.grid.generals) (range_with_len 0 l.order-counter)
