use Rattle.std.proofs.Common.{ℕ, ◌+◌}
use Rattle.gen_ots.specs.OneTime.{bit_of}
use Rattle.gen_ots.proofs.Filled.{Fills}
use Rattle.gen_ots.proofs.hashing.are_ones.Given as goal

abbrev pub invariant-lanes : goal.invariant-lanes
invariant-lanes l = Fills (λ (k : ℕ). bit_of l.digest (l.first + k)) l.j l.ones
