use Rattle.std.proofs.Common.{subst, arith}
use Rattle.std.specs.List.{All}
use Rattle.library_tests.specs.Seats.{MayTakeSeat}
use Rattle.library_tests.specs.declared.own_threads.Seat.{Seat}
use Rattle.library_tests.proofs.early_end.end_between.Goals as goal

pub run_seat-requires : goal.run_seat-requires
run_seat-requires g c =
    let P = λ (seat : Seat). MayTakeSeat c.in_ok-edges.edges c.args.scenario.now seat.me seat.passes in
    subst (All P) c.in-Some.ensures.cases.0 c.in_ok-end_next.ensures 0 c.in-Some.seat (omega arith)
