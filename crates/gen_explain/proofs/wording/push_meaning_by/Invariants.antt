use Rattle.std.proofs.Common.{◌≡◌, ◌++◌, map, take}
use Rattle.std.specs.List.{flat_map}
use Rattle.gen_explain.specs.Shown.{row_shown}
use Rattle.gen_explain.specs.Worded.{said}
use Rattle.gen_explain.proofs.wording.push_meaning_by.Given as goal

abbrev pub invariant-loop-name : goal.invariant-loop-name
invariant-loop-name l = l.out.items ≡ l.initial.out.items ++ flat_map (said (map row_shown l.rows)) (map (λ x. x.now) (take l.name-index l.names))
