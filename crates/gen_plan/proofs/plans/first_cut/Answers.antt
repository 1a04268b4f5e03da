use Rattle.std.proofs.Common.{arith}
use Rattle.gen_plan.proofs.Cuts.{first_cut, size_stands, withstands}
use Rattle.gen_plan.proofs.plans.first_cut.Goals as goal

pub returns-in-Some-clause-some : goal.returns-in-Some-clause-some
returns-in-Some-clause-some c = (
  omega (arith, c.in-Some.ensures.some.size, c.loop-count-test.true, c.from-count-end.ensures),
  first_cut c.args.graph.now c.loop-count.count c.args.diameter c.loop-count.invariant c.in-Some.cut c.in-Some.ensures.some,
)

pub loop-count-preserved : goal.loop-count-preserved
loop-count-preserved c = size_stands c.args.graph.now c.loop-count.count c.args.diameter c.loop-count.invariant c.in_default.ensures.none

pub returns-clause-none : goal.returns-clause-none
returns-clause-none c =
    withstands c.args.graph.now c.loop-count.count c.args.traitors c.args.diameter (omega (arith, c.loop-count-test.false, c.from-count-end.ensures)) c.loop-count.invariant
