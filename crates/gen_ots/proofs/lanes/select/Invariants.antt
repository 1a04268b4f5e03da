use Rattle.std.proofs.Common.{ℕ, false, slice_index_or}
use Rattle.std.specs.Int.{from_bool}
use Rattle.gen_ots.proofs.Filled.{Fills}
use Rattle.gen_ots.proofs.lanes.select.Given as goal

abbrev pub invariant-lanes : goal.invariant-lanes
invariant-lanes l = Fills (λ (k : ℕ). from_bool (slice_index_or l.ones k false)) l.j l.bits
