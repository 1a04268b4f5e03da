use Rattle.std.proofs.Common.{[], sym, ap, ◌∙◌, length}
use Rattle.std.proofs.lemmas.List.{append-nil}
use Rattle.gen_types.proofs.Steps.{ok_is}
use Rattle.gen_general.proofs.counting.carried.Goals as goal

pub returns-then-taken-parcel-clause-none : goal.returns-then-taken-parcel-clause-none
returns-then-taken-parcel-clause-none c = λ same k carries.
    let spelled = carries.spelled ∙ sym (append-nil _) in
    let read = c.in-Ok.ensures.only k (record { fits = rw c.height.ensures carries.is_chain; rest = []; parts = spelled }) in
    let pair = ok_is _ _ read in
    c.if-taken-parcel.true (sym (ap (λ p. p.1) pair) ∙ sym (ap length carries.spelled))
