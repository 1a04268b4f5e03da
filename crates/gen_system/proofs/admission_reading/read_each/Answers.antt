use Rattle.std.proofs.lemmas.Result.{err_from_is_err_and}
use Rattle.gen_types.proofs.ManyFields.{goes_on, ends, is_done}
use Rattle.gen_system.specs.AdmissionReading.{opened_at}
use Rattle.gen_system.proofs.admission_reading.read_each.Goals as goal

pub returns-in_err-one : goal.returns-in_err-one
returns-in_err-one c =
    let p = err_from_is_err_and c.from_residual.result c.from_residual.ensures.1 in
    rw (p.1, p.2) (ends (opened_at c.args.levels) c.in_err-one.field-0.0 c.loop.opened.items c.args.count c.loop.counter c.loop.rest.now _ c.loop-test.true c.in_err-one.ensures c.loop.invariant)

pub loop-preserved : goal.loop-preserved
loop-preserved c =
    rw c.in_ok-push.ensures.items (goes_on (opened_at c.args.levels) c.loop.opened.items c.args.count c.loop.counter c.loop.rest.now c.in_ok-one.one c.in_ok-one.after.now _ c.loop-test.true c.in_ok-one.ensures c.loop.invariant)

pub returns : goal.returns
returns c = is_done (opened_at c.args.levels) c.loop.opened.items c.args.count c.loop.counter c.loop.rest.now _ c.loop-test.false c.loop.invariant
