use Rattle.std.proofs.Common.{take, Contains, ◌⊎◌}
use Rattle.gen_types.specs.Ascending.{IsListOf}
use Rattle.gen_core.specs.Loops.Picking.{OrderIn}
use Rattle.gen_core.proofs.lieutenants.Lieutenant.round.Given as goal

abbrev pub invariant-loop-chain : goal.invariant-loop-chain
invariant-loop-chain l = IsListOf l.known (λ v. Contains l.initial.known v ⊎ OrderIn (take l.chain-index l.seen) v)
