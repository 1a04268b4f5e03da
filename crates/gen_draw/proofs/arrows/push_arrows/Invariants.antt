use Rattle.std.proofs.Common.{◌≡◌, ◌++◌, string_bytes, take}
use Rattle.std.specs.List.{flat_map}
use Rattle.gen_draw.specs.Arrows.{arrow_line}
use Rattle.gen_draw.proofs.arrows.push_arrows.Given as goal

abbrev pub invariant-loop-arrow : goal.invariant-loop-arrow
invariant-loop-arrow l = string_bytes l.out ≡ string_bytes l.fn.out ++ flat_map (arrow_line l.grid) (take l.arrow-index l.arrows)
