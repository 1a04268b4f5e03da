use Rattle.std.proofs.lemmas.Result.{err_from_is_err_and}
use Rattle.gen_types.proofs.ManyFields.{goes_on, ends, is_done}
use Rattle.gen_net.specs.HeaderReading.{root_at}
use Rattle.gen_net.proofs.reading.read_roots.Goals as goal

pub returns-in_err-front : goal.returns-in_err-front
returns-in_err-front c =
    let p = err_from_is_err_and c.from_residual.result c.from_residual.ensures.1 in
    rw (p.1, p.2) (ends root_at c.in_err-front.field-0.0 c.loop.roots.items c.args.count c.loop.counter c.loop.rest.now _ c.loop-test.true c.in_err-front.ensures.exact c.loop.invariant)

pub loop-preserved : goal.loop-preserved
loop-preserved c =
    rw c.in_ok-push.ensures.items (goes_on root_at c.loop.roots.items c.args.count c.loop.counter c.loop.rest.now c.copy_from_slice.new.self c.in_ok-front.after.now _ c.loop-test.true (rw c.copy_from_slice.ensures.after c.in_ok-front.ensures.exact) c.loop.invariant)

pub returns : goal.returns
returns c = is_done root_at c.loop.roots.items c.args.count c.loop.counter c.loop.rest.now _ c.loop-test.false c.loop.invariant
