use Rattle.std.proofs.Common.{◌≡◌, ◌++◌, map, take, List, ℕ}
use Rattle.gen_tree.specs.Rings.{ring_root}
use Rattle.gen_identity.specs.States.{set_seed}
use Rattle.gen_enroll.proofs.taking.append_roots_of_states.Given as goal

abbrev pub invariant-states : goal.invariant-states
invariant-states g l =
    l.roots.items ≡ l.initial.roots.items ++ map (λ (state : List ℕ). ring_root (set_seed state) l.height) (take l.place l.states)
