use Rattle.std.proofs.Common.{◌≡◌, length}
use Rattle.gen_match.specs.Reports.{reports_of}
use Rattle.gen_match.proofs.telling.next_of.Given as goal

abbrev pub invariant-loop-report : goal.invariant-loop-report
invariant-loop-report l = reports_of l.rest l.general ≡ reports_of l.reports l.general

abbrev pub decreases-loop-report : goal.decreases-loop-report
decreases-loop-report l = length l.rest
