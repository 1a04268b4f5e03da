use Rattle.std.proofs.Common.{length}
use Rattle.gen_chain.proofs.SignedSoFar.{SignedSoFar}
use Rattle.gen_chain.proofs.verifying.chain_verifies.Given as goal

abbrev pub invariant-fours : goal.invariant-fours
invariant-fours l = SignedSoFar l.header l.order l.chain.signers l.rest l.path

abbrev pub decreases-fours : goal.decreases-fours
decreases-fours l = length l.rest

abbrev pub invariant-ones : goal.invariant-ones
invariant-ones l = SignedSoFar l.header l.order l.chain.signers l.rest l.path

abbrev pub decreases-ones : goal.decreases-ones
decreases-ones l = length l.rest
