use Rattle.std.proofs.Common.{ℕ, ◌<◌}
use Rattle.std.specs.Prelude.{slice_index_or}
use Rattle.gen_local.specs.declared.progress.Progress.TheVariants.{Unlearnt}
use Rattle.gen_local.specs.Walking.Judged.{Stops}
use Rattle.gen_local.proofs.judging.any_stops.Given as goal

abbrev pub invariant-loop-number : goal.invariant-loop-number
invariant-loop-number l = (v : ℕ) → v < l.number → Stops l.net v (slice_index_or l.orders v Unlearnt) l.at → ⊥
