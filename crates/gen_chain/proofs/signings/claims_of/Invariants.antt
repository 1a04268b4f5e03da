use Rattle.std.proofs.Common.{◌≡◌, length}
use Rattle.sha_lanes.specs.declared.words.TheConstants.{LANES}
use Rattle.gen_chain.proofs.SignedClaims.{AreClaims}
use Rattle.gen_chain.proofs.signings.claims_of.Given as goal

abbrev pub invariant-places : goal.invariant-places
invariant-places l = (length l.claims ≡ LANES) × AreClaims l.header l.signings l.place l.claims
