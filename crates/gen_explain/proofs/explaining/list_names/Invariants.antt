use Rattle.std.proofs.Common.{◌≡◌, map, take}
use Rattle.std.specs.List.{flat_map}
use Rattle.gen_explain.specs.Shown.{row_shown}
use Rattle.gen_explain.specs.Worded.{name_line}
use Rattle.gen_explain.proofs.explaining.list_names.Given as goal

abbrev pub invariant-loop-row : goal.invariant-loop-row
invariant-loop-row l = l.out.items ≡ flat_map name_line (map row_shown (take l.row-index l.rows))
