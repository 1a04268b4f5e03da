use Rattle.std.proofs.Common.{length}
use Rattle.gen_chain.specs.Store.{Serves, KeepsAll}
use Rattle.gen_local.proofs.GatheredTexts.{SignersSoFar}
use Rattle.gen_local.proofs.gathering.gather_entry.Given as goal

abbrev pub invariant-loop-signer : goal.invariant-loop-signer
invariant-loop-signer l =
    Serves l.header l.store × KeepsAll l.fn.store l.store
    × SignersSoFar l.header l.order l.initial.rest l.rest l.path l.fn.texts.items l.texts.items l.all

abbrev pub decreases-loop-signer : goal.decreases-loop-signer
decreases-loop-signer l = length l.rest
