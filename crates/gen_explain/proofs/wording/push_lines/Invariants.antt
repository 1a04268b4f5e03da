use Rattle.std.proofs.Common.{◌≡◌, ◌++◌, map, length}
use Rattle.gen_explain.specs.Shown.{row_shown}
use Rattle.gen_explain.specs.Worded.{worded_lines}
use Rattle.gen_explain.proofs.wording.push_lines.Given as goal

abbrev pub invariant-loop-rest : goal.invariant-loop-rest
invariant-loop-rest l = l.out.items ++ worded_lines (map row_shown l.rows) (map (λ x. x.now) l.rest) ≡ l.fn.out.items ++ worded_lines (map row_shown l.rows) (map (λ x. x.now) l.lines)

abbrev pub decreases-loop-rest : goal.decreases-loop-rest
decreases-loop-rest l = length l.rest
