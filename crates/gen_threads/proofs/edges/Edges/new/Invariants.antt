use Rattle.gen_threads.specs.Building.{AreEmpty, AreMade}
use Rattle.gen_threads.proofs.edges.Edges.new.Given as goal

abbrev pub invariant-generals : goal.invariant-generals
invariant-generals l = AreEmpty l._number l.all.items

abbrev pub invariant-senders : goal.invariant-senders
invariant-senders l = AreMade l.scenario l.number 0 l.edges l.all.items
