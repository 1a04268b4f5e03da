use Rattle.std.proofs.Common.{◌≡◌, take}
use Rattle.gen_chain.proofs.chains.SignedChainClone.clone.Given as goal

abbrev pub invariant-signers : goal.invariant-signers
invariant-signers l = l.signers.items ≡ take l.signer-index l.self.signers
