use Rattle.std.specs.List.{All}
use Rattle.std.specs.Vec.Iter.{into_iter_items}
use Rattle.gen_threads.specs.Edges.{HasNewPasses}
use Rattle.gen_threads.proofs.Froms.{From}
use Rattle.library_tests.specs.Seats.{MayTakeSeat}
use Rattle.library_tests.proofs.own_threads.seats_of.Given as goal

abbrev pub invariant-generals : goal.invariant-generals
invariant-generals l = record {
  left : From (HasNewPasses l.edges l.scenario) l.number (into_iter_items l.rest);
  made : All (λ seat. MayTakeSeat l.edges l.scenario seat.me seat.passes) l.seats.items;
}
