use Rattle.std.proofs.Common.{take}
use Rattle.gen_core.specs.Seeing.{AreArrivals}
use Rattle.gen_world.proofs.running.arrivals.Given as goal

abbrev pub invariant-loop-message : goal.invariant-loop-message
invariant-loop-message l = AreArrivals (take l.message-index l.messages) l.me l.round l.seen.items
