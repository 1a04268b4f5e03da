use Rattle.std.proofs.Common.{◌≡◌, ◌++◌, length}
use Rattle.std.specs.List.{flat_map}
use Rattle.gen_local.specs.Erased.{erased}
use Rattle.gen_match.specs.Underivables.{entry_keys}
use Rattle.gen_match.proofs.sources.put_sources.Given as goal

abbrev pub invariant-loop-entry : goal.invariant-loop-entry
invariant-loop-entry l =
    l.keys.items ++ flat_map (entry_keys l.faulty) (erased l.rest) ≡ l.initial.keys.items ++ flat_map (entry_keys l.faulty) (erased l.entries)

abbrev pub decreases-loop-entry : goal.decreases-loop-entry
decreases-loop-entry l = length l.rest
