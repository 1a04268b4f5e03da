use Rattle.std.proofs.Common.{◌≡◌}
use Rattle.std.specs.List.{flat_map, range_with_len}
use Rattle.gen_match.specs.Reports.{told_logs}
use Rattle.gen_match.specs.Rest.{rest_entries, AreSmall}
use Rattle.gen_match.specs.Underivables.{found_at}
use Rattle.gen_match.proofs.derived.check_derived.Given as goal

abbrev pub invariant-loop-number : goal.invariant-loop-number
invariant-loop-number l = record {
  ranks_so_far : l.ranks.items ≡ flat_map (λ g. flat_map (found_at l.sources.items l.header.network l.faulty g) (rest_entries l.header.network l.faulty (told_logs l.reports) g)) (range_with_len 0 l.number);
  small_so_far : AreSmall l.header.network l.faulty (told_logs l.reports) l.number;
}
