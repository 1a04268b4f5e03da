use Rattle.std.proofs.Common.{ℕ, ◌+◌, ◌*◌}
use Rattle.gen_ots.proofs.Filled.{Fills}
use Rattle.gen_ots.proofs.secrets.blocks_from.Given as goal

abbrev pub invariant-lanes : goal.invariant-lanes
invariant-lanes l = Fills (λ (k : ℕ). l.first + l.step * k) l.j l.counters
