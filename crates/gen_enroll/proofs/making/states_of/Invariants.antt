use Rattle.std.proofs.Common.{◌≡◌}
use Rattle.gen_identity.specs.States.{state_after}
use Rattle.gen_enroll.specs.Loops.{set_states}
use Rattle.gen_enroll.proofs.making.states_of.Given as goal

abbrev pub invariant-sets : goal.invariant-sets
invariant-sets l = record {
  next : l.next ≡ state_after l.state l.counter;
  states : l.states.items ≡ set_states l.state l.counter;
}
