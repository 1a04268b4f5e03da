use Rattle.std.proofs.Common.{◌≡◌, ◌++◌, length}
use Rattle.gen_chain.specs.Chain.{signed_path}
use Rattle.gen_chain.proofs.chains.SignedChain.path.Given as goal

abbrev pub invariant-loop-signer : goal.invariant-loop-signer
invariant-loop-signer l = l.path ++ signed_path l.rest ≡ signed_path l.self.signers

abbrev pub decreases-loop-signer : goal.decreases-loop-signer
decreases-loop-signer l = length l.rest
