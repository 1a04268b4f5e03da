use Rattle.std.proofs.Common.{arith}
use Rattle.gen_plan.proofs.Graphs.{neighbours_more}
use Rattle.gen_plan.proofs.Joined.{near_below}
use Rattle.gen_plan.proofs.graph.Graph.of.Goals as goal

pub loop-number-preserved : goal.loop-number-preserved
loop-number-preserved c =
    neighbours_more c.args.net.now c.loop-number.neighbours c.loop-number.number c.at.result c.neighbours.result c.bits.result
    c.at.ensures c.loop-number-test.true c.bits.ensures (λ v near. let l = near_below c.args.net.now c.generals-generals.ensures.network c.at.result v near in omega (arith, l, c.generals-generals.ensures.network.ranges.few_generals)) c.neighbours.ensures c.loop-number.invariant

pub invariant_of-result : goal.invariant_of-result
invariant_of-result c = rw c.of.ensures (record {
  network = c.generals-generals.ensures.network;
  generals = c.generals-generals.ensures.value;
  neighbours = λ g l. c.loop-number.invariant.1 g (omega (arith, l, c.loop-number-test.false));
})
