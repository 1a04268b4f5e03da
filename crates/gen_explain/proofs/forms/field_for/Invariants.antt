use Rattle.std.proofs.Common.{◌≡◌, map, length}
use Rattle.gen_explain.specs.Rows.{field_for}
use Rattle.gen_explain.proofs.forms.field_for.Given as goal

abbrev pub invariant-loop-fields : goal.invariant-loop-fields
invariant-loop-fields l = field_for (map (λ x. x.now) l.fields) (map (λ x. x.now) l.rest) l.letter ≡ field_for (map (λ x. x.now) l.form) (map (λ x. x.now) l.words) l.letter

abbrev pub decreases-loop-fields : goal.decreases-loop-fields
decreases-loop-fields l = length l.fields
