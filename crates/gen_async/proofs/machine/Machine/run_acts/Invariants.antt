use Rattle.std.proofs.Common.{take}
use Rattle.gen_async.specs.Running.{RunsTo}
use Rattle.gen_async.proofs.machine.Machine.run_acts.Given as goal

abbrev pub invariant-acts : goal.invariant-acts
invariant-acts l = RunsTo l.initial.self (take l.me-index l.acts) l.self
