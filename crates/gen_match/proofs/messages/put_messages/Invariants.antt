use Rattle.std.proofs.Common.{◌≡◌, ◌++◌, length}
use Rattle.std.specs.List.{flat_map, AllByRecursion}
use Rattle.gen_local.specs.Erased.{erased}
use Rattle.gen_match.specs.Messages.{told_keys}
use Rattle.gen_match.specs.Rest.{IsSmall}
use Rattle.gen_match.proofs.messages.put_messages.Given as goal

abbrev pub invariant-loop-entry : goal.invariant-loop-entry
invariant-loop-entry l = record {
  keys_so_far : l.keys.items ++ flat_map (told_keys l.side l.counted l.general) (erased l.rest) ≡ l.initial.keys.items ++ flat_map (told_keys l.side l.counted l.general) (erased l.entries);
  small_so_far : AllByRecursion IsSmall (erased l.rest) → AllByRecursion IsSmall (erased l.entries);
}

abbrev pub decreases-loop-entry : goal.decreases-loop-entry
decreases-loop-entry l = length l.rest
