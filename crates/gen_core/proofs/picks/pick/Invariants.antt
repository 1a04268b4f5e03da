use Rattle.std.proofs.Common.{take}
use Rattle.gen_core.specs.Loops.Picking.{AreBest}
use Rattle.gen_core.proofs.picks.pick.Given as goal

abbrev pub invariant-loop-chain : goal.invariant-loop-chain
invariant-loop-chain l = AreBest l.known (take l.chain-index l.seen) l.picked
