use Rattle.std.proofs.Common.{◌≡◌}
use Rattle.std.specs.List.{flat_map, range_with_len}
use Rattle.gen_match.specs.Messages.{told_keys}
use Rattle.gen_match.specs.Reports.{told_logs}
use Rattle.gen_match.specs.Rest.{rest_entries, AreSmall}
use Rattle.gen_match.proofs.messages.find_keys.Given as goal

abbrev pub invariant-loop-number : goal.invariant-loop-number
invariant-loop-number l = record {
  keys_so_far : l.keys.items ≡ flat_map (λ g. flat_map (told_keys l.side l.counted g) (rest_entries l.header.network l.faulty (told_logs l.reports) g)) (range_with_len 0 l.number);
  small_so_far : AreSmall l.header.network l.faulty (told_logs l.reports) l.number;
}
