use Rattle.gen_walks.specs.Walks.{IsPairBefore}
use Rattle.gen_walks.specs.BestWalks.{AreBestFor}
use Rattle.gen_walks.specs.Loops.Search.{AreLevelRows}
use Rattle.gen_walks.proofs.make.make_walks.Given as goal

abbrev pub invariant-sources : goal.invariant-sources
invariant-sources l = AreLevelRows l.net l.rest l.source l.rows.items

abbrev pub invariant-loop-number : goal.invariant-loop-number
invariant-loop-number l = AreBestFor l.net l.rest (IsPairBefore l.net l.rest l.number 0) l.walks

abbrev pub invariant-loop-other : goal.invariant-loop-other
invariant-loop-other l = AreBestFor l.net l.rest (IsPairBefore l.net l.rest l.a l.other) l.walks
