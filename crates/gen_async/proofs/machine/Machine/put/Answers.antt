use Rattle.std.proofs.Common.{◌≡◌, ◌<◌, ◌+◌, ◌*◌, ◌∙◌, ◌++◌, ◌∷◌, [], Some, map, length, refl, sym, ap, subst, arith, rules, deque_len}
use Rattle.std.proofs.lemmas.List.{length-map}
use Rattle.gen_scenario.specs.SignedWorld.{frame_at}
use Rattle.gen_async.specs.declared.acts.Act.TheVariants.{Puts}
use Rattle.gen_async.specs.declared.acts.Moved.TheVariants.{Blocked}
use Rattle.gen_async.specs.Actors.{ActorState, one_more}
use Rattle.gen_async.specs.Running.{IsKept, Answers, progress_of}
use Rattle.gen_async.proofs.Acting.{put_blocked, put_moved, act_read, actor_read, next_inside, below_inside, kept_same, put_kept, progress_on}
use Rattle.gen_async.proofs.Tables.{at_spot, same_at, pushed}
use Rattle.gen_async.proofs.machine.Machine.put.Goals as goal

pub returns-then-len-self-clause-ok : goal.returns-then-len-self-clause-ok
returns-then-len-self-clause-ok c =
    let i = c.self.inside in
    let s = i.scenario in
    let l = c.requires.next.0 in
    let next = next_inside c.args.self.now s i.capacity (progress_of i.actors.items) c.args.me (Some (Puts l c.args.to)) c.self.view_is c.requires.next.1 in
    let below = below_inside c.args.self.now s i.capacity (progress_of i.actors.items) c.args.me c.self.view_is c.requires.below in
    let q = c.index_mut-queue.result.now in
    let there : c.spot.result < length i.queues.items = omega (arith, c.self.invariant.all_rows, length-map i.queues.items (λ queue. queue.items), c.spot.ensures.below) in
    let held = at_spot (λ queue. queue.items) i.queues.items c.spot.result (c.args.me * 16 + c.args.to) q c.spot.ensures.value there c.index_mut-queue.ensures.value in
    let long : deque_len q ≡ length q.items = search rules in
    let blocked = put_blocked s i.capacity (progress_of i.actors.items) i.actors.items (map (λ queue. queue.items) i.queues.items) c.self.invariant c.args.me below c.args.self.now l c.args.to c.self.view_is next (omega (arith, c.len.ensures, c.if-len-self.true, long, ap length held)) in
    subst (λ z. Answers c.args.self.now c.args.me Blocked z) (sym c.self.view_is) blocked

pub invariant_of-self-in_err-reserve : goal.invariant_of-self-in_err-reserve
invariant_of-self-in_err-reserve c =
    let i = c.self.inside in
    let s = i.scenario in
    let there : c.spot.result < length i.queues.items = omega (arith, c.self.invariant.all_rows, length-map i.queues.items (λ queue. queue.items), c.spot.ensures.below) in
    let back = same_at (λ queue. queue.items) i.queues.items c.spot.result there c.index_mut-queue.result.now c.index_mut-queue.ensures.value c.reserve.new.self c.reserve.ensures.items in
    subst (λ z. IsKept s i.capacity (progress_of i.actors.items) i.actors.items z) (sym back) c.self.invariant

pub put-requires : goal.put-requires
put-requires c =
    let i = c.self.inside in
    let s = i.scenario in
    let l = c.requires.next.0 in
    let next = next_inside c.args.self.now s i.capacity (progress_of i.actors.items) c.args.me (Some (Puts l c.args.to)) c.self.view_is c.requires.next.1 in
    let below = below_inside c.args.self.now s i.capacity (progress_of i.actors.items) c.args.me c.self.view_is c.requires.below in
    (l, act_read s i.capacity (progress_of i.actors.items) i.actors.items (map (λ queue. queue.items) i.queues.items) c.self.invariant c.args.me below c.index_of.result c.index_mut.result.now c.index_of.ensures c.index_mut.ensures.value ∙ next)

pub invariant_of-self-in_err-frame : goal.invariant_of-self-in_err-frame
invariant_of-self-in_err-frame c =
    let i = c.self.inside in
    let s = i.scenario in
    let there : c.spot.result < length i.queues.items = omega (arith, c.self.invariant.all_rows, length-map i.queues.items (λ queue. queue.items), c.spot.ensures.below) in
    let back = same_at (λ queue. queue.items) i.queues.items c.spot.result there c.index_mut-queue.result.now c.index_mut-queue.ensures.value c.reserve.new.self c.reserve.ensures.items in
    kept_same s i.capacity i.actors.items (map (λ queue. queue.items) i.queues.items) _ c.index_of.result c.index_mut.result.now c.put.new.self c.self.invariant c.index_mut.ensures.value c.in_err-frame.ensures.err back

pub invariant_of-self-2 : goal.invariant_of-self-2
invariant_of-self-2 c =
    let i = c.self.inside in
    let s = i.scenario in
    let rows = map (λ queue. queue.items) i.queues.items in
    let progress = progress_of i.actors.items in
    let l = c.requires.next.0 in
    let next = next_inside c.args.self.now s i.capacity progress c.args.me (Some (Puts l c.args.to)) c.self.view_is c.requires.next.1 in
    let below = below_inside c.args.self.now s i.capacity progress c.args.me c.self.view_is c.requires.below in
    let q = c.index_mut-queue.result.now in
    let there : c.spot.result < length i.queues.items = omega (arith, c.self.invariant.all_rows, length-map i.queues.items (λ queue. queue.items), c.spot.ensures.below) in
    let held = at_spot (λ queue. queue.items) i.queues.items c.spot.result (c.args.me * 16 + c.args.to) q c.spot.ensures.value there c.index_mut-queue.ensures.value in
    let long : deque_len q ≡ length q.items = search rules in
    let a = c.index_mut.result.now in
    let a_is = actor_read s i.capacity progress i.actors.items rows c.self.invariant c.args.me below c.index_of.result a c.index_of.ensures c.index_mut.ensures.value in
    let t_is = c.in_ok-frame.ensures.ok ∙ ap one_more a_is in
    let reads = act_read s i.capacity progress i.actors.items rows c.self.invariant c.args.me below c.index_of.result a c.index_of.ensures c.index_mut.ensures.value in
    let framed = c.in_ok-frame.ensures.frame l (reads ∙ next) in
    let framed_at = framed ∙ ap (λ (z : ActorState). frame_at z.scenario l z.me c.args.to) a_is in
    let grown = pushed (λ queue. queue.items) i.queues.items rows c.spot.result (c.args.me * 16 + c.args.to) q c.push_back_reserved.new.self c.in_ok-frame.frame refl c.spot.ensures.value there c.index_mut-queue.ensures.value (c.push_back_reserved.ensures.items ∙ ap (λ z. z ++ c.in_ok-frame.frame ∷ []) c.reserve.ensures.items) in
    put_kept s i.capacity progress i.actors.items rows c.self.invariant c.args.me below c.index_of.result c.put.new.self l c.args.to c.in_ok-frame.frame _ c.index_of.ensures refl next (omega (arith, c.len.ensures, c.if-len-self.false, long, ap length held)) framed_at t_is grown

pub returns-clause-ok : goal.returns-clause-ok
returns-clause-ok c =
    let i = c.self.inside in
    let s = i.scenario in
    let rows = map (λ queue. queue.items) i.queues.items in
    let progress = progress_of i.actors.items in
    let l = c.requires.next.0 in
    let next = next_inside c.args.self.now s i.capacity progress c.args.me (Some (Puts l c.args.to)) c.self.view_is c.requires.next.1 in
    let below = below_inside c.args.self.now s i.capacity progress c.args.me c.self.view_is c.requires.below in
    let q = c.index_mut-queue.result.now in
    let there : c.spot.result < length i.queues.items = omega (arith, c.self.invariant.all_rows, length-map i.queues.items (λ queue. queue.items), c.spot.ensures.below) in
    let held = at_spot (λ queue. queue.items) i.queues.items c.spot.result (c.args.me * 16 + c.args.to) q c.spot.ensures.value there c.index_mut-queue.ensures.value in
    let long : deque_len q ≡ length q.items = search rules in
    let a_is = actor_read s i.capacity progress i.actors.items rows c.self.invariant c.args.me below c.index_of.result c.index_mut.result.now c.index_of.ensures c.index_mut.ensures.value in
    let t_is = c.in_ok-frame.ensures.ok ∙ ap one_more a_is in
    put_moved s i.capacity progress i.actors.items rows c.self.invariant c.args.me below c.args.self.now _ l c.args.to c.self.view_is next (omega (arith, c.len.ensures, c.if-len-self.false, long, ap length held)) (progress_on s i.capacity progress i.actors.items rows c.self.invariant c.args.me below c.index_of.result c.put.new.self c.index_of.ensures refl t_is)
