use Rattle.std.proofs.Common.{◌≡◌, drop, map}
use Rattle.std.specs.List.{find}
use Rattle.gen_convict.specs.FindingClaims as claims
use Rattle.gen_convict.proofs.log_claims.missing_claim.Given as goal

abbrev pub invariant-loop-report : goal.invariant-loop-report
invariant-loop-report l = find (claims.lacks l.general (map (λ t. t.now) l.firsts)) (drop l.report-index l.reports) ≡ find (claims.lacks l.general (map (λ t. t.now) l.firsts)) l.reports
