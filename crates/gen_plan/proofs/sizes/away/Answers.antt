use Rattle.std.proofs.Common.{refl}
use Rattle.gen_plan.proofs.Distances.{away_at, not_away}
use Rattle.gen_plan.proofs.Told.{told_otherwise}
use Rattle.gen_plan.proofs.sizes.away.Goals as goal

pub returns-then-contains-clause-some : goal.returns-then-contains-clause-some
returns-then-contains-clause-some c = (
  c.loop-edges-test.true,
  away_at c.args.graph.now c.new-nobody.result c.new-nobody.ensures c.loop-edges.edges c.args.general c.at.result c.at.ensures
      ((c.joined_to.ensures.members c.at.result).0 (c.if-contains.ensures.0 refl)) c.loop-edges.invariant,
)

pub loop-edges-preserved : goal.loop-edges-preserved
loop-edges-preserved c =
    not_away c.args.graph.now c.new-nobody.result c.new-nobody.ensures c.loop-edges.edges c.args.general c.at.result c.at.ensures
    (λ j. told_otherwise (c.if-contains.ensures.1 ((c.joined_to.ensures.members c.at.result).1 j))) c.loop-edges.invariant
