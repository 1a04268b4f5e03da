use Rattle.std.proofs.Common.{◌<◌, ℕ}
use Rattle.gen_walks.specs.Walks.{IsPair, Bridges}
use Rattle.gen_walks.proofs.diameter.check_walks.Given as goal

abbrev pub invariant-loop-number : goal.invariant-loop-number
invariant-loop-number l = (x y : ℕ) → x < l.number → IsPair l.net l.rest x y → Bridges l.net l.rest l.walks x y

abbrev pub invariant-loop-other : goal.invariant-loop-other
invariant-loop-other l = (y : ℕ) → y < l.other → IsPair l.net l.rest l.a y → Bridges l.net l.rest l.walks l.a y
