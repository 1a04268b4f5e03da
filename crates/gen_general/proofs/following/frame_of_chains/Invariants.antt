use Rattle.std.proofs.Common.{◌≡◌, map, take}
use Rattle.gen_chain.specs.Chain.{chain_spelling}
use Rattle.gen_scenario.specs.Frames.{outside_of}
use Rattle.gen_general.proofs.following.frame_of_chains.Given as goal

abbrev pub invariant-chains : goal.invariant-chains
invariant-chains l = l.frame.items ≡ map chain_spelling (outside_of l.to (take l.chain-index l.chains))
