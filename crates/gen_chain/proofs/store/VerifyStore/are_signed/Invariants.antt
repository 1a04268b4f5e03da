use Rattle.std.proofs.Common.{length}
use Rattle.gen_chain.proofs.StoredSoFar.{StoredSoFar}
use Rattle.gen_chain.proofs.store.VerifyStore.are_signed.Given as goal

abbrev pub invariant-loop-signer : goal.invariant-loop-signer
invariant-loop-signer l = StoredSoFar l.header l.order l.signers l.rest l.path l.ahead l.fn.self l.self

abbrev pub decreases-loop-signer : goal.decreases-loop-signer
decreases-loop-signer l = length l.rest
