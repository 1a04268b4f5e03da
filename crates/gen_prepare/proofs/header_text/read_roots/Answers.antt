use Rattle.std.proofs.lemmas.Result.{err_from_is_err_and}
use Rattle.gen_prepare.proofs.RootLoop.{goes_on, ends, is_done}
use Rattle.gen_prepare.proofs.header_text.read_roots.Goals as goal

pub returns-in_err-root : goal.returns-in_err-root
returns-in_err-root c =
    let p = err_from_is_err_and c.from_residual.result c.from_residual.ensures.1 in
    rw (p.1, p.2) (ends c.in_err-root.field-0.0 c.loop-place.roots.items c.args.count c.loop-place._place c.loop-place.cursor _ c.loop-place-test.true c.in_err-root.ensures c.loop-place.invariant)

pub loop-place-preserved : goal.loop-place-preserved
loop-place-preserved c =
    rw c.in_ok-push.ensures.items (goes_on c.loop-place.roots.items c.args.count c.loop-place._place c.loop-place.cursor c.in_ok-root.root c.in_ok-root.after _ c.loop-place-test.true c.in_ok-root.ensures c.loop-place.invariant)

pub returns : goal.returns
returns c = is_done c.loop-place.roots.items c.args.count c.loop-place._place c.loop-place.cursor _ c.loop-place-test.false c.loop-place.invariant
