use Rattle.std.proofs.Common.{arith}
use Rattle.gen_plan.proofs.MostNeighbours.{first_most, next_most, all_most}
use Rattle.gen_plan.proofs.sizes.most_neighbours.Goals as goal

pub loop-number-init : goal.loop-number-init
loop-number-init c = first_most c.args.graph.now c.at.result c.neighbours_of-most.result c.at.ensures c.neighbours_of-most.ensures.value c.neighbours_of-most.ensures.few

pub loop-number-preserved : goal.loop-number-preserved
loop-number-preserved c =
    next_most c.args.graph.now c.loop-number.number c.loop-number.most c.at-in-loop-number.result c.neighbours_of.result c.max-most.result
    c.at-in-loop-number.ensures c.neighbours_of.ensures.value c.neighbours_of.ensures.few c.max-most.ensures c.loop-number.invariant

pub returns-clause-value : goal.returns-clause-value
returns-clause-value c =
    all_most c.args.graph.now c.loop-number.number c.loop-number.most
    (omega (arith, c.loop-number-test.false, c.loop-number.auto.number, c.loop-number.auto.number-end, c.generals-number-end.ensures.value, c.generals-number-end.ensures.network.ranges.some_generals))
    c.loop-number.invariant

pub returns-clause-few : goal.returns-clause-few
returns-clause-few c = c.loop-number.invariant.few
