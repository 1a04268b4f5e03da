use Rattle.std.proofs.Common.{◌+◌}
use Rattle.gen_plan.proofs.Cuts.{none_up_to, not_withstood, none_at_all}
use Rattle.gen_plan.proofs.plans.least_diameter.Goals as goal

pub loop-more-init : goal.loop-more-init
loop-more-init c = none_up_to c.args.graph.now c.args.traitors c.args.diameter c.requires.fails

pub loop-more-preserved : goal.loop-more-preserved
loop-more-preserved c =
    let cut = c.in-Some.ensures.some in
    none_up_to c.args.graph.now c.args.traitors (c.loop-more.more + 1)
    (not_withstood c.args.graph.now (c.loop-more.more + 1) c.in-Some._cut.faulty c.in-Some._cut.a c.in-Some._cut.b c.args.traitors cut.1 cut.0)

pub returns : goal.returns
returns c = none_at_all c.args.graph.now c.requires.network c.args.traitors c.loop-more.more c.loop-more-test.false c.loop-more.invariant
