use Rattle.std.proofs.Common.{◌≡◌, ◌+◌, vec_len, vec_capacity}
use Rattle.std.specs.Vec.Iter.{into_iter_items, into_iter_len}
use Rattle.gen_threads.specs.Works.{PromisedFrom, TurnsFrom}
use Rattle.gen_threads.proofs.joining.join_all.Given as goal

abbrev pub invariant-loop-handle : goal.invariant-loop-handle
invariant-loop-handle g l =
    let rest = l.handle-iterator in let f = l.field in let h = f.rings.now.value.items in
    (vec_len l.turns + into_iter_len rest ≡ vec_len l.fn.handles)
    × PromisedFrom f.edges.now f.scenario.now h (vec_len l.turns) (into_iter_items rest)
    × TurnsFrom f.edges.now f.scenario.now h 0 l.turns.items
    × (vec_capacity l.turns ≡ vec_capacity l.initial.turns)

abbrev pub invariant-loop-turn : goal.invariant-loop-turn
invariant-loop-turn g l =
    let rest = l.turn-iterator in let f = l.field in let h = f.rings.now.value.items in
    (vec_len l.turns + into_iter_len rest ≡ vec_len l.fn.handles + vec_len l.fn.back)
    × TurnsFrom f.edges.now f.scenario.now h (vec_len l.turns) (into_iter_items rest)
    × TurnsFrom f.edges.now f.scenario.now h 0 l.turns.items
    × (vec_capacity l.turns ≡ vec_capacity l.initial.turns)
