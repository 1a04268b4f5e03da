use Rattle.gen_plan.proofs.MostNeighbours.{few_below}
use Rattle.gen_plan.proofs.sizes.neighbours_of.Goals as goal

pub returns-clause-few : goal.returns-clause-few
returns-clause-few c = few_below c.neighbours.result c.len.result c.len.ensures.length c.len.ensures.ascending c.len.ensures.below
