use Rattle.gen_walks.specs.Walks.{AreJoined}
use Rattle.gen_walks.specs.Levels.{level}
use Rattle.gen_walks.proofs.Round.{Kept}
use Rattle.gen_walks.proofs.search.spread.Given as goal

abbrev pub invariant-loop-number : goal.invariant-loop-number
invariant-loop-number l = Kept (AreJoined l.net l.rest) (level l.row) l.k l.number l.next l.changed
