use Rattle.std.proofs.Common.{◌<◌}
use Rattle.gen_types.specs.Ascending.{IsListOf}
use Rattle.gen_match.specs.Messages.{Counts}
use Rattle.gen_match.specs.Reports.{told_logs}
use Rattle.gen_match.proofs.edges.counted.Given as goal

abbrev pub invariant-loop-number : goal.invariant-loop-number
invariant-loop-number l = IsListOf l.set (λ g. (g < l.number) × Counts l.faulty (told_logs l.reports) g)
