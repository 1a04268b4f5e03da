use Rattle.std.proofs.Common.{◌≡◌, ◌++◌, ◌-◌, map}
use Rattle.std.specs.List.{range_with_len}
use Rattle.gen_convict.specs.Evidence.{told_of}
use Rattle.gen_convict.specs.FindingClaims.{accusations}
use Rattle.gen_convict.proofs.finding.find_evidence.Given as goal

abbrev pub invariant-loop-number : goal.invariant-loop-number
invariant-loop-number l = map told_of l.found.items ++ accusations l.reports (range_with_len l.number (l.generals - l.number)) ≡ accusations l.reports (range_with_len 0 l.generals)
