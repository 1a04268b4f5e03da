use Rattle.std.proofs.Common.{◌≡◌, ◌≤◌, ◌-◌}
use Rattle.gen_identity.specs.Sets.{set_roots}
use Rattle.gen_identity.specs.States.{state_after}
use Rattle.gen_enroll.proofs.making.roots_of_sets.Given as goal

abbrev pub invariant-turns : goal.invariant-turns
invariant-turns g l = record {
  within : l.left ≤ l.count;
  state : l.next ≡ state_after l.state (l.count - l.left);
  roots : l.roots.items ≡ set_roots l.state l.height (l.count - l.left);
}

abbrev pub decreases-turns : goal.decreases-turns
decreases-turns g l = l.left
