use Rattle.std.proofs.Common.{◌≡◌, take}
use Rattle.gen_net.specs.Header.{height_of}
use Rattle.gen_chain.specs.Chain.{IsSignedChain}
use Rattle.gen_scenario.specs.Signing.{lengthened}
use Rattle.gen_scenario.specs.SignerTrees.{keys_with}
use Rattle.gen_general.proofs.signing.lengthen_along.Given as goal

abbrev pub invariant-signers : goal.invariant-signers
invariant-signers l = record {
  chain : l.longer ≡ lengthened (keys_with l.header l.trees) l.chain (take l.general-index l.path);
  height : IsSignedChain (height_of l.header) l.longer;
}
