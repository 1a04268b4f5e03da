use Rattle.std.proofs.Common.{◌≡◌}
use Rattle.gen_edge.specs.Ends.{IsTakePassOf, take_view}
use Rattle.gen_threads.proofs.waiting.take_frame.Given as goal

abbrev pub invariant-loop : goal.invariant-loop
invariant-loop g l =
    (goal.iterator-loop g).can_next l.iterator' × (goal.iterator-loop g).is_finite l.iterator'
    × IsTakePassOf l.edge l.pass × (take_view l.pass ≡ take_view l.initial.pass)
