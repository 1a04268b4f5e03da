use Rattle.std.proofs.Common.{refl, arith}
use Rattle.std.proofs.lemmas.Result.{err_from_is_err_and}
use Rattle.gen_script.specs.FieldReading.{neighbour_in}
use Rattle.gen_script.proofs.Joining.{far_off, told, fails_after}
use Rattle.gen_script.proofs.line_fields.neighbour_in.Goals as goal

pub returns-then-number-generals : goal.returns-then-number-generals
unfolding neighbour_in
returns-then-number-generals c =
    let far = far_off c.args.reader.now.net.now c.generals.ensures.network c.args.reader.now.me c.in_ok-number.number (omega (arith, c.generals.ensures.value, c.if-number-generals.true)) in
    rw (c.in_ok-number.ensures, far) refl

pub returns-in_err-check : goal.returns-in_err-check
unfolding neighbour_in
returns-in_err-check c =
    let p = err_from_is_err_and c.from_residual-in_err-check.result c.from_residual-in_err-check.ensures.1 in
    let same = told c.args.reader.now.net.now c.args.reader.now.me c.at-general.result c.has_edge.result c.has_edge.ensures.0 c.has_edge.ensures.1 in
    let same' = rw c.at-general.ensures at same in
    rw (p.1, p.2, c.in_ok-number.ensures, same') (fails_after c.in_err-check.field-0.0 _ _ c.in_err-check.ensures.exact)
