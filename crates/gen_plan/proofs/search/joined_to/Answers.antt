use Rattle.std.proofs.Common.{◌≡◌, subst, arith}
use Rattle.gen_types.specs.Ascending.{IsListOf}
use Rattle.gen_plan.specs.Plans.{IsJoinedBy}
use Rattle.gen_plan.proofs.Joined.{joined_alone, joined_more}
use Rattle.gen_plan.proofs.search.joined_to.Goals as goal

pub loop-edges-init : goal.loop-edges-init
loop-edges-init c = joined_alone c.args.graph.now c.args.faulty.now c.only-set.result c.args.to c.only-set.ensures

pub loop-edges-preserved : goal.loop-edges-preserved
loop-edges-preserved c =
    joined_more c.args.graph.now c.spread-set.ensures.network c.args.faulty.now c.loop-edges.set c.spread-set.result c.loop-edges.edges c.args.to
    c.loop-edges.invariant c.spread-set.ensures.wider

pub returns : goal.returns
returns c =
    let all : c.loop-edges.edges ≡ c.args.most = omega (arith, c.loop-edges-test.false, c.loop-edges.auto.edges-end) in
    subst (λ k. IsListOf c.loop-edges.set (λ a. IsJoinedBy c.args.graph.now c.args.faulty.now k a c.args.to)) all c.loop-edges.invariant
