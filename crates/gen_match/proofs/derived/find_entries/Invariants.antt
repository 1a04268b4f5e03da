use Rattle.std.proofs.Common.{◌≡◌, ◌++◌, length}
use Rattle.std.specs.List.{flat_map, AllByRecursion}
use Rattle.gen_local.specs.Erased.{erased}
use Rattle.gen_match.specs.Rest.{IsSmall}
use Rattle.gen_match.specs.Underivables.{found_at}
use Rattle.gen_match.proofs.derived.find_entries.Given as goal

abbrev pub invariant-loop-entry : goal.invariant-loop-entry
invariant-loop-entry l = record {
  ranks_so_far : l.ranks.items ++ flat_map (found_at l.sources l.header.network l.faulty l.to) (erased l.rest) ≡ l.initial.ranks.items ++ flat_map (found_at l.sources l.header.network l.faulty l.to) (erased l.entries);
  small_so_far : AllByRecursion IsSmall (erased l.rest) → AllByRecursion IsSmall (erased l.entries);
}

abbrev pub decreases-loop-entry : goal.decreases-loop-entry
decreases-loop-entry l = length l.rest
