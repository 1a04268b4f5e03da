use Rattle.std.proofs.Common.{suc, arith, subst, true, IfSome}
use Rattle.gen_audit.specs.Loops.Dealing.{Each}
use Rattle.gen_audit.specs.Loops.Started.{IsPromise}
use Rattle.gen_audit.specs.Loops.Hands.{AreOfWorker}
use Rattle.gen_audit.proofs.Joined.{joined, joined_below, none_joined}
use Rattle.gen_audit.proofs.starting.join_all.Goals as goal

pub loop-handle-init : goal.loop-handle-init
loop-handle-init g c =
    let h = c.args.header.now in let xs = c.args.exhibits.now in let last = c.args.last in
    let it = c.into_iter-handle-iterator.ensures.into_iter_gives in
    let r = c.requires in (
      1,
      (let a = it.1 in omega arith),
      rw it.0 r.promised,
      joined h xs last 0 true c.add_hand-all.result c.args.hands.now.items c.add_hand-all.new.hands.items c.args.first (none_joined h xs last c.args.hands.now.items r.empty) r.first c.add_hand-all.ensures.added,
      (let a = c.add_hand-all.ensures.room in let b = r.room in omega arith),
    )

pub add_hand-all-requires-in-loop-handle : goal.add_hand-all-requires-in-loop-handle
add_hand-all-requires-in-loop-handle g c =
    let i = c.loop-handle.invariant in
    let below = joined_below c.args.header.now c.args.exhibits.now c.args.last i.0 c.loop-handle.all c.loop-handle.hands.items i.3 in
    let a = i.1 in let b = i.4 in let d = c.in-Some.ensures.steps.1 in omega (arith, c.loop-handle.hands.ok)

pub loop-handle-preserved : goal.loop-handle-preserved
loop-handle-preserved g c =
    let h = c.args.header.now in let xs = c.args.exhibits.now in let last = c.args.last in
    let i = c.loop-handle.invariant in
    let n = i.0 in
    let steps = c.in-Some.ensures.steps in
    let each = subst (Each (λ k handle. IsPromise h xs last k handle.promise) n) steps.0 i.2 in
    let p = each.0 in
    let promise = c.in-Some.handle.promise in
    let kept : IfSome c.join.result (λ hand. AreOfWorker promise.header.now promise.exhibits.now promise.last promise.worker hand.reports.items) = c.join.ensures in
    let mine : IfSome c.join.result (λ hand. AreOfWorker h xs last n hand.reports.items) = rw (p.its_header, p.its_exhibits, p.its_last, p.its_worker) at kept in (
      suc n,
      (let a = i.1 in let b = steps.1 in omega arith),
      each.1,
      joined h xs last n c.loop-handle.all c.add_hand-all-in-loop-handle.result c.loop-handle.hands.items c.add_hand-all-in-loop-handle.new.hands.items c.join.result i.3 mine c.add_hand-all-in-loop-handle.ensures.added,
      (let a = i.4 in let b = c.add_hand-all-in-loop-handle.ensures.room in omega arith),
    )
