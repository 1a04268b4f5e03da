use Rattle.std.proofs.Common.{◌≡◌, take, map}
use Rattle.gen_match.specs.Ranks.{finding_at}
use Rattle.gen_match.proofs.ranks.findings_at.Given as goal

abbrev pub invariant-loop-rank : goal.invariant-loop-rank
invariant-loop-rank l = l.findings.items ≡ map (finding_at l.kind) (take l.rank-index l.ranks)
