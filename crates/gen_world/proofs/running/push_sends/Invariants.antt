use Rattle.std.proofs.Common.{take}
use Rattle.gen_core.specs.Sending.{Appends}
use Rattle.gen_world.specs.Loops.Rounds.{IsAmong}
use Rattle.gen_world.proofs.running.push_sends.Given as goal

abbrev pub invariant-loop-part : goal.invariant-loop-part
invariant-loop-part l = Appends (IsAmong l.from (take l.part-index l.out)) l.initial.messages.items l.messages.items
