use Rattle.std.proofs.Common.{◌≡◌, map, take}
use Rattle.gen_scenario.specs.Scenario.{scripted}
use Rattle.gen_scenario.specs.Part.{signer_tree}
use Rattle.gen_scenario.proofs.signed.Scenario.part.Given as goal

abbrev pub invariant-signers : goal.invariant-signers
invariant-signers l = l.trees.items ≡ map (signer_tree l.self) (scripted (take l.signer-index l.self.scripts))
