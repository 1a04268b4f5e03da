use Rattle.std.proofs.Common.{◌≡◌}
use Rattle.gen_edge.specs.Ends.{IsPutPassOf, put_view}
use Rattle.gen_threads.proofs.waiting.put_frame.Given as goal

abbrev pub invariant-loop : goal.invariant-loop
invariant-loop g l =
    (goal.iterator-loop g).can_next l.iterator' × (goal.iterator-loop g).is_finite l.iterator'
    × IsPutPassOf l.edge l.pass × (put_view l.pass ≡ put_view l.initial.pass) × (l.held ≡ l.initial.held)
