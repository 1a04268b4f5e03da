use Rattle.gen_plan.proofs.Cuts.{most_told, not_withstood}
use Rattle.gen_plan.proofs.plans.plan_of.Goals as goal

pub returns-in_default : goal.returns-in_default
returns-in_default c = rw (c.of-graph.ensures, c.traitors-traitors.ensures, c.diameter-diameter.ensures) at c.in_default.ensures.none

pub least_diameter-requires-clause-fails : goal.least_diameter-requires-clause-fails
least_diameter-requires-clause-fails c =
    let cut = c.in-Some.ensures.some in
    not_withstood c.of-graph.result c.diameter-diameter.result c.in-Some.cut.faulty c.in-Some.cut.a c.in-Some.cut.b c.traitors-traitors.result cut.1 cut.0

pub returns : goal.returns
returns c =
    let cut = rw (c.of-graph.ensures, c.traitors-traitors.ensures, c.diameter-diameter.ensures) at c.in-Some.ensures.some in
    record {
      few = cut.0;
      cut = cut.1;
      diameter = rw (c.of-graph.ensures, c.traitors-traitors.ensures) at c.least_diameter.ensures;
      traitors = most_told c.args.net.now c.args.net.now.diameter c.in-Some.cut.faulty c.in-Some.cut.a c.in-Some.cut.b c.len.result c.checked_sub.result cut.1 c.len.ensures.length c.checked_sub.ensures;
    }
