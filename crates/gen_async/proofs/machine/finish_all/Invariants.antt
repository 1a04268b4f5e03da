use Rattle.std.proofs.Common.{◌≡◌, ◌++◌, reverse, length}
use Rattle.std.specs.List.{flat_map}
use Rattle.gen_async.specs.Running.{AreDone, logs_at}
use Rattle.gen_async.proofs.machine.finish_all.Given as goal

abbrev pub invariant-loop-actor : goal.invariant-loop-actor
invariant-loop-actor l = record {
  done : AreDone l.actors.items;
  logs : l.logs.items ++ flat_map logs_at (reverse l.actors.items) ≡ flat_map logs_at l.fn.actors.items;
}

abbrev pub decreases-loop-actor : goal.decreases-loop-actor
decreases-loop-actor l = length l.actors.items
