use Rattle.std.proofs.Common.{◌≡◌, ℕ, ◌+◌, length}
use Rattle.std.specs.Prelude.{OnOk}
use Rattle.std.specs.Vec.Iter.{into_iter_items, into_iter_len}
use Rattle.gen_threads.specs.Works.{TurnsFrom}
use Rattle.gen_threads.specs.Faults.{outcome_of}
use Rattle.gen_threads.proofs.Gathering.{Goes, logs_first}
use Rattle.gen_threads.proofs.HeldRings.{FirstAfter}
use Rattle.gen_threads.proofs.joining.gather.Given as goal

abbrev pub invariant-loop-turn : goal.invariant-loop-turn
invariant-loop-turn l =
    let rest = l.turn-iterator in
    (k : ℕ) × (k + into_iter_len rest ≡ l.scenario.net.generals)
    × TurnsFrom l.edges l.scenario l.held.value.items k (into_iter_items rest)
    × OnOk l.outcome (l.logs.items ≡ logs_first l.scenario k)
    × (into_iter_len rest ≡ length (into_iter_items rest))
    × OnOk l.outcome (FirstAfter l.scenario l.held.value.items k l.rings.items)
    × Goes l.outcome (outcome_of (into_iter_items rest)) (outcome_of l.fn.turns.items)
