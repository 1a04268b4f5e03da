use Rattle.std.proofs.Common.{◌≡◌, drop}
use Rattle.std.specs.List.{find}
use Rattle.gen_convict.specs.FindingClaims as claims
use Rattle.gen_convict.proofs.log_claims.departing_claim.Given as goal

abbrev pub invariant-loop-report : goal.invariant-loop-report
invariant-loop-report l = find (claims.departs l.general) (drop l.report-index l.reports) ≡ find (claims.departs l.general) l.reports
