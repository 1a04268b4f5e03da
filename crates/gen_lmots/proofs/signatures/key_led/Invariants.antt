use Rattle.std.proofs.Common.{◌++◌}
use Rattle.sha2.specs.Hashers.{Holds256}
use Rattle.gen_lmots.specs.Signatures.{led_ends}
use Rattle.gen_lmots.specs.Strings.{d_pblc, front, u16str}
use Rattle.gen_lmots.proofs.signatures.key_led.Given as goal

abbrev pub invariant-chains : goal.invariant-chains
invariant-chains l = Holds256 l.hasher ((front l.place ++ u16str d_pblc) ++ led_ends l.place l.hash l.values l.i)
