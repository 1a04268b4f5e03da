use Rattle.std.proofs.Common.{◌≡◌, length}
use Rattle.gen_text.proofs.EdgeLoop.{with_front, edges_from}
use Rattle.gen_text.proofs.numbers.read_opening.Given as goal

abbrev pub invariant-lines : goal.invariant-lines
invariant-lines l = with_front l.edges.items (edges_from l.cursor) ≡ edges_from l.initial.cursor

abbrev pub decreases-lines : goal.decreases-lines
decreases-lines l = length l.cursor.parts
