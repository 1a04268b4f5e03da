use Rattle.std.proofs.Common.{◌<◌, ℕ}
use Rattle.gen_walks.specs.Loops.Checking.{IsSteep, IsEvenFrom}
use Rattle.gen_walks.proofs.levels.is_even.Given as goal

abbrev pub invariant-loop-number : goal.invariant-loop-number
invariant-loop-number l = (x : ℕ) → x < l.number → IsEvenFrom l.net l.rest l.row x

abbrev pub invariant-loop-other : goal.invariant-loop-other
invariant-loop-other l = (y : ℕ) → y < l.other → IsSteep l.net l.rest l.row l.a y → ⊥
