use Rattle.std.proofs.Common.{◌≡◌, map, length}
use Rattle.gen_explain.specs.Rows.{fits}
use Rattle.gen_explain.proofs.forms.fits.Given as goal

abbrev pub invariant-loop-fields : goal.invariant-loop-fields
invariant-loop-fields l = fits (map (λ x. x.now) l.fields) (map (λ x. x.now) l.rest) ≡ fits (map (λ x. x.now) l.form) (map (λ x. x.now) l.words)

abbrev pub decreases-loop-fields : goal.decreases-loop-fields
decreases-loop-fields l = length l.fields
