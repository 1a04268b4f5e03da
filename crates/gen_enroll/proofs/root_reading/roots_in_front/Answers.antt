use Rattle.std.proofs.Common.{arith}
use Rattle.std.proofs.lemmas.List.{length_push}
use Rattle.std.proofs.lemmas.Result.{err_from_is_err_and}
use Rattle.gen_types.proofs.ManyFields.{goes_on, ends, is_done}
use Rattle.gen_enroll.specs.RootReading.{root_at}
use Rattle.gen_enroll.proofs.root_reading.roots_in_front.Goals as goal

pub returns-in_err-front-clause-exact : goal.returns-in_err-front-clause-exact
returns-in_err-front-clause-exact c =
    let p = err_from_is_err_and c.from_residual-in_err-front.result c.from_residual-in_err-front.ensures.1 in
    rw (p.1, p.2) (ends root_at c.in_err-front.field-0.0 c.roots.roots.items c.args.count c.roots.counter c.roots.rest.now _ c.roots-test.true c.in_err-front.ensures.exact c.roots.invariant.read)

pub roots-preserved : goal.roots-preserved
roots-preserved c =
    let root = c.copy_from_slice.new.self in
    rw c.in_ok-push.ensures.items (record {
      read = goes_on root_at c.roots.roots.items c.args.count c.roots.counter c.roots.rest.now root c.in_ok-front.after.now _ c.roots-test.true (rw c.copy_from_slice.ensures.after c.in_ok-front.ensures.exact) c.roots.invariant.read;
      count = omega (arith, c.roots.invariant.count, length_push c.roots.roots.items root);
    })

pub returns-clause-exact : goal.returns-clause-exact
returns-clause-exact c = is_done root_at c.roots.roots.items c.args.count c.roots.counter c.roots.rest.now _ c.roots-test.false c.roots.invariant.read
