use Rattle.std.proofs.Common.{length}
use Rattle.gen_chain.specs.Store.{Serves, KeepsAll}
use Rattle.gen_local.proofs.GatheredTexts.{EntriesSoFar}
use Rattle.gen_local.proofs.gathering.gather_entries.Given as goal

abbrev pub invariant-loop-entry : goal.invariant-loop-entry
invariant-loop-entry l =
    Serves l.header l.store × KeepsAll l.fn.store l.store
    × EntriesSoFar l.header l.entries l.rest l.index l.fn.texts.items l.texts.items l.unsigned

abbrev pub decreases-loop-entry : goal.decreases-loop-entry
decreases-loop-entry l = length l.rest
