use Rattle.gen_plan.proofs.MostNeighbours.{MostBelow}
use Rattle.gen_plan.proofs.sizes.most_neighbours.Given as goal

abbrev pub invariant-loop-number : goal.invariant-loop-number
invariant-loop-number l = MostBelow l.graph l.number l.most
