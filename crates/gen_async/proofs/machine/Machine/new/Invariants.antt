use Rattle.std.proofs.Common.{◌≡◌, map, replicate, []}
use Rattle.gen_async.proofs.machine.Machine.new.Given as goal

abbrev pub invariant-queues : goal.invariant-queues
invariant-queues l = map (λ d. d.items) l.queues.items ≡ replicate l.counter []
