use Rattle.std.proofs.Common.{◌≡◌, ◌++◌, map}
use Rattle.gen_core.specs.Sending.{outgoing}
use Rattle.gen_core.proofs.commanding.Commander.sends.Given as goal

abbrev pub invariant-loop-to : goal.invariant-loop-to
invariant-loop-to l = record {
  sent : l.out.items ≡ map (λ to. outgoing to l.self l.path) l.yielded;
  split : l.initial.to-iterator ≡ l.yielded ++ l.to-iterator;
}
