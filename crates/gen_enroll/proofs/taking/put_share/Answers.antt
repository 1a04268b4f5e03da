use Rattle.std.proofs.Common.{List, sym, subst}
use Rattle.std.specs.Prelude.{IfOk}
use Rattle.gen_enroll.specs.declared.taking.MadeRoot.{MadeRoot}
use Rattle.gen_enroll.specs.Taking.{AreMade}
use Rattle.gen_enroll.proofs.taking.put_share.Goals as goal

pub returns-clause-found : goal.returns-clause-found
returns-clause-found c states height made are =
    let own = subst (λ r. IfOk r (λ (m : _). AreMade states height m.items)) c.in-Ok.is made in
    c.put_roots.ensures.found states height (subst (λ (m : List MadeRoot). AreMade states height m) (sym c.as_slice.ensures.value) own) are
