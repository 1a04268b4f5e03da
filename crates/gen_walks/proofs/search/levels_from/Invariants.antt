use Rattle.gen_walks.specs.Walks.{AreJoined}
use Rattle.gen_walks.specs.Levels.{level}
use Rattle.gen_walks.proofs.Found.{IsFound}
use Rattle.gen_walks.proofs.search.levels_from.Given as goal

abbrev pub invariant-loop-k : goal.invariant-loop-k
invariant-loop-k l = IsFound (AreJoined l.net l.rest) l.fn.source l.k (level l.levels)
