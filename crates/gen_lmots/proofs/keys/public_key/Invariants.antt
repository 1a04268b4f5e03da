use Rattle.std.proofs.Common.{◌++◌}
use Rattle.sha2.specs.Hashers.{Holds256}
use Rattle.gen_lmots.specs.Keys.{ends}
use Rattle.gen_lmots.specs.Strings.{d_pblc, front, u16str}
use Rattle.gen_lmots.proofs.keys.public_key.Given as goal

abbrev pub invariant-chains : goal.invariant-chains
invariant-chains l = Holds256 l.hasher ((front l.place ++ u16str d_pblc) ++ ends l.seed l.place l.i)
