use Rattle.std.proofs.Common.{ℕ, ◌/◌, ◌%◌, ◌^◌, slice_index}
use Rattle.gen_ots.proofs.Filled.{Fills}
use Rattle.gen_ots.proofs.chacha.initial_states.Given as goal

abbrev pub invariant-lanes : goal.invariant-lanes
invariant-lanes l = Fills (λ (k : ℕ). slice_index l.counters k % 2 ^ 32) l.j l.low × Fills (λ (k : ℕ). slice_index l.counters k / 2 ^ 32) l.j l.high
