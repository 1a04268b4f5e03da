use Rattle.gen_threads.specs.Building.{AreMade}
use Rattle.gen_threads.proofs.edges.add_edges_from.Given as goal

abbrev pub invariant-receivers : goal.invariant-receivers
invariant-receivers l = AreMade l.scenario l.from l.number l.edges l.all.items
