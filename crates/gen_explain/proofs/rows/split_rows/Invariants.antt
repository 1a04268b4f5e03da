use Rattle.std.proofs.Common.{◌≡◌, map, take}
use Rattle.std.specs.List.{flat_map}
use Rattle.gen_explain.specs.Rows.{row_in}
use Rattle.gen_explain.specs.Shown.{row_shown}
use Rattle.gen_explain.proofs.rows.split_rows.Given as goal

abbrev pub invariant-loop-line : goal.invariant-loop-line
invariant-loop-line l = map row_shown l.rows.items ≡ flat_map row_in (map (λ x. x.now) (take l.line-index l.line-items))
