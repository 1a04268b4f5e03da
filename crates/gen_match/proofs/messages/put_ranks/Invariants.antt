use Rattle.std.proofs.Common.{◌≡◌, ◌++◌, length}
use Rattle.std.specs.List.{flat_map}
use Rattle.gen_match.specs.Messages.{rank_lacked}
use Rattle.gen_match.proofs.messages.put_ranks.Given as goal

abbrev pub invariant-loop-key : goal.invariant-loop-key
invariant-loop-key l =
    l.ranks.items ++ flat_map (rank_lacked l.others) l.rest ≡ l.initial.ranks.items ++ flat_map (rank_lacked l.others) l.keys

abbrev pub decreases-loop-key : goal.decreases-loop-key
decreases-loop-key l = length l.rest
