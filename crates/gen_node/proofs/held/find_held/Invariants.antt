use Rattle.std.proofs.Common.{◌≡◌, length}
use Rattle.gen_node.specs.Held.{held_of}
use Rattle.gen_node.proofs.held.find_held.Given as goal

abbrev pub invariant-rest : goal.invariant-rest
invariant-rest l = held_of l.fn.general l.rest ≡ held_of l.fn.general l.rows

abbrev pub decreases-rest : goal.decreases-rest
decreases-rest l = length l.rest
