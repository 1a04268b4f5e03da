use Rattle.std.proofs.Common.{◌≡◌, ◌≤◌, ◌-◌}
use Rattle.std.specs.Io.KnownBytes.{Appends}
use Rattle.gen_identity.specs.States.{state_after}
use Rattle.gen_enrolling.specs.Loops.{roots_from}
use Rattle.gen_enrolling.proofs.pieces.write_sets.Given as goal

abbrev pub invariant-pieces : goal.invariant-pieces
invariant-pieces g l = record {
  before : l.made ≤ l.done;
  within : l.done ≤ l.all;
  state : l.next ≡ state_after l.fn.state (l.done - l.made);
  wrote : Appends (g.W.Write.contents l.initial.writer) (g.W.Write.contents l.writer) (roots_from l.fn.state l.height (l.done - l.made));
}

abbrev pub decreases-pieces : goal.decreases-pieces
decreases-pieces g l = l.all - l.done
