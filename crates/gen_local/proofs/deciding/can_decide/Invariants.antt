use Rattle.std.proofs.Common.{◌<◌}
use Rattle.std.specs.Prelude.{slice_index_or}
use Rattle.gen_types.specs.Ascending.{IsListOf}
use Rattle.gen_local.specs.declared.progress.Progress.TheVariants.{Unlearnt}
use Rattle.gen_local.specs.Walking.Judged.{IsKnown}
use Rattle.gen_local.proofs.deciding.can_decide.Given as goal

abbrev pub invariant-loop-number : goal.invariant-loop-number
invariant-loop-number l = IsListOf l.known (λ v. (v < l.number) × IsKnown (slice_index_or l.orders v Unlearnt))
