use Rattle.std.proofs.Common.{◌≡◌}
use Rattle.std.specs.List.{flat_map, range_with_len}
use Rattle.gen_match.specs.Reports.{told_logs}
use Rattle.gen_match.specs.Rest.{rest_entries}
use Rattle.gen_match.specs.Underivables.{entry_keys}
use Rattle.gen_match.proofs.sources.find_sources.Given as goal

abbrev pub invariant-loop-number : goal.invariant-loop-number
invariant-loop-number l =
    l.keys.items ≡ flat_map (λ g. flat_map (entry_keys l.faulty) (rest_entries l.header.network l.faulty (told_logs l.reports) g)) (range_with_len 0 l.number)
