use Rattle.std.proofs.Common.{◌≡◌, ◌++◌, length}
use Rattle.gen_audit.specs.Loops.Dealing.{dealt}
use Rattle.gen_audit.proofs.dealing.pieces_of.Given as goal

abbrev pub invariant-exhibits : goal.invariant-exhibits
invariant-exhibits l = dealt l.last l.worker l.exhibits ≡ l.pieces.items ++ dealt l.last l.turn l.rest

abbrev pub decreases-exhibits : goal.decreases-exhibits
decreases-exhibits l = length l.rest
