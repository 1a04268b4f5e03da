-- The ranks by which findings are sorted.
use Rattle.std.specs.Prelude.{slice_index}
use Rattle.std.specs.declared.cmp.Ordering.{Ordering}
use Rattle.std.specs.Ordering.{nat_cmp, ordering_then}
use Rattle.gen_match.specs.declared.finding.Finding.{Finding}
use Rattle.gen_match.specs.Findings.{finding_rank}
use Rattle.gen_audit.specs.declared.ranks.Rank.{Rank}

-- the numbers of a finding's rank; a number that the finding doesn't have is 0
abbrev pub sorting_rank : Finding → Rank
sorting_rank f = record {
  number = slice_index (finding_rank f) 0;
  general = slice_index (finding_rank f) 1;
  detail = slice_index (finding_rank f) 2;
  round = slice_index (finding_rank f) 3;
  order = slice_index (finding_rank f) 4;
}

-- ranks are ordered by the first number, then by the next
abbrev pub rank_cmp : Rank → Rank → Ordering
rank_cmp a b =
    ordering_then (nat_cmp a.number b.number)
    (ordering_then (nat_cmp a.general b.general)
    (ordering_then (nat_cmp a.detail b.detail)
    (ordering_then (nat_cmp a.round b.round) (nat_cmp a.order b.order))))
