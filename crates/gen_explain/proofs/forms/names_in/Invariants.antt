use Rattle.std.proofs.Common.{◌≡◌, map, length}
use Rattle.gen_explain.specs.Rows.{names_in}
use Rattle.gen_explain.proofs.forms.names_in.Given as goal

abbrev pub invariant-loop-fields : goal.invariant-loop-fields
invariant-loop-fields l = names_in (map (λ x. x.now) l.fields) (map (λ x. x.now) l.rest) ≡ names_in (map (λ x. x.now) l.form) (map (λ x. x.now) l.words)

abbrev pub decreases-loop-fields : goal.decreases-loop-fields
decreases-loop-fields l = length l.fields
