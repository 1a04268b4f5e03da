use Rattle.std.proofs.Common.{◌≡◌, ◌+◌, false, [], vec_len, vec_capacity}
use Rattle.std.specs.Vec.Iter.{into_iter_items, into_iter_len}
use Rattle.gen_threads.specs.Works.{WorksFrom, TurnsFrom, ArePromised}
use Rattle.gen_threads.proofs.starting.start_all.Given as goal

abbrev pub invariant-loop-work : goal.invariant-loop-work
invariant-loop-work g l =
    let f = l.field in let e = f.edges.now in let s = f.scenario.now in let r = f.rings.now.value.items in let rest = l.work-iterator in
    (l.me + into_iter_len rest ≡ s.net.generals) × (vec_len l.handles + vec_len l.back ≡ l.me) × (l.stopped ≡ false → l.back.items ≡ [])
    × WorksFrom e s r l.me (into_iter_items rest)
    × ArePromised e s r l.handles.items
    × TurnsFrom e s r (vec_len l.handles) l.back.items
    × (vec_capacity l.handles ≡ vec_capacity l.initial.handles) × (vec_capacity l.back ≡ vec_capacity l.initial.back)
