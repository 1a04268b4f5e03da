use Rattle.std.proofs.Common.{◌≡◌, ◌++◌, length}
use Rattle.std.specs.List.{flat_map, range_with_len}
use Rattle.gen_audit.specs.Bundle.{exhibits_of}
use Rattle.gen_prepare.proofs.ordering.in_order.Given as goal

abbrev pub invariant-generals : goal.invariant-generals
invariant-generals l = l.ordered.items ≡ flat_map (exhibits_of l.logs) (range_with_len 0 l.general)

abbrev pub invariant-logs : goal.invariant-logs
invariant-logs l = l.ordered.items ++ exhibits_of l.rest l.general ≡ l.initial.ordered.items ++ exhibits_of l.logs l.general

abbrev pub decreases-logs : goal.decreases-logs
decreases-logs l = length l.rest
