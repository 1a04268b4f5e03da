use Rattle.std.proofs.Common.{length}
use Rattle.gen_async.proofs.machine.close_all.Given as goal

abbrev pub invariant-loop-actor : goal.invariant-loop-actor
invariant-loop-actor l = Unit {0}

abbrev pub decreases-loop-actor : goal.decreases-loop-actor
decreases-loop-actor l = length l.actors.items
