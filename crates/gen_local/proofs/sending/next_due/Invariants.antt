use Rattle.std.proofs.Common.{ℕ, ◌≤◌, ◌<◌}
use Rattle.gen_local.specs.Walking.State.{IsDueTo}
use Rattle.gen_local.proofs.sending.next_due.Given as goal

abbrev pub invariant-loop-number : goal.invariant-loop-number
invariant-loop-number l = record {
  after : l.from ≤ l.number;
  few : l.number ≤ l.net.generals;
  least : (to : ℕ) → l.from ≤ to → to < l.number → IsDueTo l.net l.general l.path to → ⊥;
}
