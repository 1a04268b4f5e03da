use Rattle.std.proofs.Common.{◌≡◌, ◌++◌, map, take}
use Rattle.gen_explain.specs.Rows.{filled}
use Rattle.gen_explain.proofs.forms.push_filled.Given as goal

abbrev pub invariant-loop-letter : goal.invariant-loop-letter
invariant-loop-letter l = l.out.items ≡ l.fn.out.items ++ filled (map (λ x. x.now) l.form) (map (λ x. x.now) l.words) (take l.letter-index l.sentence)
