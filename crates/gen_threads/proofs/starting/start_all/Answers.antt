use Rattle.std.proofs.Common.{rules, ◌≡◌, ◌+◌, sym, ◌∙◌, ap, subst, arith, length, vec_len, true≢false}
use Rattle.std.specs.Vec.Iter.{into_iter_len}
use Rattle.gen_threads.specs.Works.{IsPromise, IsTurn, IsWork, WorksFrom}
use Rattle.gen_threads.proofs.Froms.{from_all, from_none, from_head, from_tail, from_push}
use Rattle.gen_threads.proofs.starting.start_all.Goals as goal
use Rattle.gen_threads.proofs.starting.start_all.Goals.{in-Ok, in-Err}

pub start_one-requires-clause-work : goal.start_one-requires-clause-work
start_one-requires-clause-work g c κs within =
    let f = c.args.field in from_head (IsWork f.edges.now f.scenario.now f.rings.now.value.items) c.loop-work.me c.in-Some.work _ _ c.in-Some.ensures.steps.0 c.loop-work.invariant.3

pub loop-work-init : goal.loop-work-init
loop-work-init g c =
    let f = c.args.field in let e = f.edges.now in let s = f.scenario.now in let h = f.rings.now.value.items in let r = c.requires in (
      (let a = c.into_iter-work-iterator.ensures.into_iter_gives.1 in let b = r.works.count in omega (arith, c.args.works.ok)),
      search rules,
      (λ _. r.empty.1),
      subst (WorksFrom e s h 0) (sym c.into_iter-work-iterator.ensures.into_iter_gives.0) (from_all (IsWork e s h) s.net.generals c.args.works.items r.works),
      from_none (λ k p. IsPromise e s h k p.promise) 0 _ r.empty.0,
      from_none (IsTurn e s h) _ _ r.empty.1,
      search rules,
      search rules,
    )

pub loop-work-preserved : goal.loop-work-preserved
loop-work-preserved g c =
    let f = c.args.field in let e = f.edges.now in let s = f.scenario.now in let h = f.rings.now.value.items in let i = c.loop-work.invariant in
    let me = c.loop-work.me in let handles = c.loop-work.handles in let back = c.loop-work.back in
    let rest = from_tail (IsWork e s h) me c.in-Some.work _ _ c.in-Some.ensures.steps.0 i.3 in
    let count : me + 1 + into_iter_len c.next.new.self ≡ s.net.generals = (let a = i.0 in let b = c.in-Some.ensures.steps.1 in omega arith) in
    elim c.match-start_one.branch [
      | in-Ok w ↦ (
          let none = i.2 w.in-Ok.ensures.started in
          let empty : length back.items ≡ 0 = ap length none in
          rw (w.handles-is, w.back-is, w.stopped-is) (
            count,
            (let a = w.push_reserved.ensures.len in let b = i.1 in omega arith),
            i.2,
            rest,
            from_push (λ k p. IsPromise e s h k p.promise) 0 me _ _ _ w.push_reserved.ensures.items (let b = i.1 in omega (arith, handles.ok, back.ok)) i.4 w.in-Ok.ensures.ok,
            from_none (IsTurn e s h) _ _ none,
            w.push_reserved.ensures.capacity ∙ i.6,
            i.7,
          )
          )
      | in-Err w ↦ (
          rw (w.handles-is, w.back-is, w.stopped-is) (
            count,
            (let a = w.push_reserved-in-Err.ensures.len in let b = i.1 in omega arith),
            (λ x. absurd (true≢false x)),
            rest,
            i.4,
            from_push (IsTurn e s h) (vec_len handles) me _ _ _ w.push_reserved-in-Err.ensures.items (let b = i.1 in omega (arith, back.ok)) i.5 w.in-Err.ensures.err,
            i.6,
            w.push_reserved-in-Err.ensures.capacity ∙ i.7,
          )
          )
    ]
