use Rattle.std.proofs.Common.{◌≡◌, find, None}
use Rattle.std.specs.List.{range_with_len}
use Rattle.gen_async.specs.Machine.{answer, has_moved}
use Rattle.gen_async.proofs.machine.Machine.mover.Given as goal

abbrev pub invariant-generals : goal.invariant-generals
invariant-generals l = find (λ g. has_moved (answer l.self.scenario.net l.self.capacity l.self.progress g)) (range_with_len 0 l.number) ≡ None
