use Rattle.std.proofs.lemmas.Result.{err_from_is_err_and}
use Rattle.gen_script.proofs.PathSteps.{stops}
use Rattle.gen_script.proofs.path_fields.numbers_in.Goals as goal

pub returns-in_err-path : goal.returns-in_err-path
returns-in_err-path c =
    let p = err_from_is_err_and c.from_residual.result c.from_residual.ensures.1 in
    rw (p.1, p.2) (stops (λ x. x.now) c.args.net.now c.args.kind c.loop-rest.path c.loop-rest.rest.now _ c.in_err-path.field-0.0 _ c.in-len1-up.len_at_least c.in_err-path.ensures c.loop-rest.invariant)
