use Rattle.std.proofs.Common.{◌≡◌, ◌++◌, map, length, option_map}
use Rattle.gen_explain.specs.Shown.{row_shown}
use Rattle.gen_explain.specs.Worded.{each_explained}
use Rattle.gen_explain.proofs.explaining.explain_each.Given as goal

abbrev pub invariant-loop-rest : goal.invariant-loop-rest
invariant-loop-rest l = option_map (λ text. l.out.items ++ text) (each_explained (map row_shown l.rows) (map (λ x. x.now) l.rest)) ≡ each_explained (map row_shown l.rows) (map (λ x. x.now) l.names)

abbrev pub decreases-loop-rest : goal.decreases-loop-rest
decreases-loop-rest l = length l.rest
