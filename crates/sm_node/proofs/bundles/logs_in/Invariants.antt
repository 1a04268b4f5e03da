use Rattle.std.proofs.Common.{◌≡◌, length}
use Rattle.sm_node.specs.Bundles.{logs_in}
use Rattle.sm_node.proofs.Gathering.{behind}
use Rattle.sm_node.proofs.bundles.logs_in.Given as goal

abbrev pub invariant-behind : goal.invariant-behind
invariant-behind l = behind l.had.items (logs_in l.left l.behind) ≡ logs_in l.logs l.bytes

abbrev pub decreases-behind : goal.decreases-behind
decreases-behind l = length l.left
