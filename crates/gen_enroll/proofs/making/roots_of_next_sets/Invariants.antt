use Rattle.std.proofs.Common.{◌≡◌}
use Rattle.gen_identity.specs.Sets.{set_roots}
use Rattle.gen_identity.specs.States.{state_after}
use Rattle.gen_enroll.proofs.making.roots_of_next_sets.Given as goal

abbrev pub invariant-sets : goal.invariant-sets
invariant-sets l = record {
  state : l.state ≡ state_after l.initial.state l.counter;
  roots : l.roots.items ≡ set_roots l.initial.state l.height l.counter;
}
