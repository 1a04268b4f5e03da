use Rattle.std.proofs.Common.{◌≡◌, ◌<◌, ◌+◌, ◌*◌, ◌∙◌, List, ℕ, Some, map, length, slice_index_or, refl, sym, ap, subst, arith, rules, deque_len}
use Rattle.std.proofs.lemmas.List.{length-map}
use Rattle.gen_scenario.specs.SignedWorld.{frame_at}
use Rattle.gen_async.specs.declared.acts.Act.TheVariants.{Takes}
use Rattle.gen_async.specs.declared.acts.Moved.TheVariants.{Blocked}
use Rattle.gen_async.specs.Actors.{ActorState, one_more}
use Rattle.gen_async.specs.Running.{Answers, progress_of}
use Rattle.gen_async.proofs.Acting.{take_blocked, take_moved, act_read, actor_read, next_inside, below_inside, front_is, take_kept, progress_on}
use Rattle.gen_async.proofs.Tables.{at_spot, popped, none_left, some_left}
use Rattle.gen_async.proofs.machine.Machine.take.Goals as goal

pub returns-in_default-clause-ok : goal.returns-in_default-clause-ok
returns-in_default-clause-ok c =
    let i = c.self.inside in
    let s = i.scenario in
    let l = c.requires.next.0 in
    let next = next_inside c.args.self.now s i.capacity (progress_of i.actors.items) c.args.me (Some (Takes l c.args.from)) c.self.view_is c.requires.next.1 in
    let below = below_inside c.args.self.now s i.capacity (progress_of i.actors.items) c.args.me c.self.view_is c.requires.below in
    let q = c.index_mut-queue.result.now in
    let there : c.spot.result < length i.queues.items = omega (arith, c.self.invariant.all_rows, length-map i.queues.items (λ queue. queue.items), c.spot.ensures.below) in
    let held = at_spot (λ queue. queue.items) i.queues.items c.spot.result (c.args.from * 16 + c.args.me) q c.spot.ensures.value there c.index_mut-queue.ensures.value in
    let long : deque_len q ≡ length q.items = search rules in
    let none = none_left c.front.result (deque_len q) c.front.ensures.variant c.in_default.is in
    let blocked = take_blocked s i.capacity (progress_of i.actors.items) i.actors.items (map (λ queue. queue.items) i.queues.items) c.self.invariant c.args.me below c.args.self.now l c.args.from c.self.view_is next (omega (arith, none, long, ap length held)) in
    subst (λ z. Answers c.args.self.now c.args.me Blocked z) (sym c.self.view_is) blocked

pub take-requires : goal.take-requires
take-requires c =
    let i = c.self.inside in
    let s = i.scenario in
    let rows = map (λ queue. queue.items) i.queues.items in
    let progress = progress_of i.actors.items in
    let l = c.requires.next.0 in
    let next = next_inside c.args.self.now s i.capacity progress c.args.me (Some (Takes l c.args.from)) c.self.view_is c.requires.next.1 in
    let below = below_inside c.args.self.now s i.capacity progress c.args.me c.self.view_is c.requires.below in
    let q = c.index_mut-queue.result.now in
    let there : c.spot.result < length i.queues.items = omega (arith, c.self.invariant.all_rows, length-map i.queues.items (λ queue. queue.items), c.spot.ensures.below) in
    let held = at_spot (λ queue. queue.items) i.queues.items c.spot.result (c.args.from * 16 + c.args.me) q c.spot.ensures.value there c.index_mut-queue.ensures.value in
    let long : deque_len q ≡ length q.items = search rules in
    let left = some_left c.front.result (deque_len q) c.in-Some.frame c.front.ensures.variant c.in-Some.is in
    let a = c.index_mut.result.now in
    let a_is = actor_read s i.capacity progress i.actors.items rows c.self.invariant c.args.me below c.index_of.result a c.index_of.ensures c.index_mut.ensures.value in
    let reads = act_read s i.capacity progress i.actors.items rows c.self.invariant c.args.me below c.index_of.result a c.index_of.ensures c.index_mut.ensures.value in
    let front = c.in-Some.ensures.lookup ∙ ap (λ (z : List (List (List ℕ))). slice_index_or z 0 c.in-Some.frame.now) held in
    let framed = front_is s i.capacity progress i.actors.items rows c.self.invariant c.args.me below l c.args.from c.in-Some.frame.now next (omega (arith, left, long, ap length held)) front in
    (l, reads ∙ next, framed ∙ sym (ap (λ (z : ActorState). frame_at z.scenario l c.args.from z.me) a_is))

pub invariant_of-self-2 : goal.invariant_of-self-2
invariant_of-self-2 c =
    let i = c.self.inside in
    let s = i.scenario in
    let rows = map (λ queue. queue.items) i.queues.items in
    let progress = progress_of i.actors.items in
    let l = c.requires.next.0 in
    let next = next_inside c.args.self.now s i.capacity progress c.args.me (Some (Takes l c.args.from)) c.self.view_is c.requires.next.1 in
    let below = below_inside c.args.self.now s i.capacity progress c.args.me c.self.view_is c.requires.below in
    let q = c.index_mut-queue.result.now in
    let there : c.spot.result < length i.queues.items = omega (arith, c.self.invariant.all_rows, length-map i.queues.items (λ queue. queue.items), c.spot.ensures.below) in
    let held = at_spot (λ queue. queue.items) i.queues.items c.spot.result (c.args.from * 16 + c.args.me) q c.spot.ensures.value there c.index_mut-queue.ensures.value in
    let long : deque_len q ≡ length q.items = search rules in
    let left = some_left c.front.result (deque_len q) c.in-Some.frame c.front.ensures.variant c.in-Some.is in
    let a = c.index_mut.result.now in
    let a_is = actor_read s i.capacity progress i.actors.items rows c.self.invariant c.args.me below c.index_of.result a c.index_of.ensures c.index_mut.ensures.value in
    let t_is = c.in_ok-take.ensures.ok ∙ ap one_more a_is in
    let shrunk = popped (λ queue. queue.items) i.queues.items rows c.spot.result (c.args.from * 16 + c.args.me) q c.pop_front.new.self refl c.spot.ensures.value there c.index_mut-queue.ensures.value c.pop_front.ensures.rest in
    take_kept s i.capacity progress i.actors.items rows c.self.invariant c.args.me below c.index_of.result c.take.new.self l c.args.from _ c.index_of.ensures refl next (omega (arith, left, long, ap length held)) t_is shrunk

pub returns-clause-ok : goal.returns-clause-ok
returns-clause-ok c =
    let i = c.self.inside in
    let s = i.scenario in
    let rows = map (λ queue. queue.items) i.queues.items in
    let progress = progress_of i.actors.items in
    let l = c.requires.next.0 in
    let next = next_inside c.args.self.now s i.capacity progress c.args.me (Some (Takes l c.args.from)) c.self.view_is c.requires.next.1 in
    let below = below_inside c.args.self.now s i.capacity progress c.args.me c.self.view_is c.requires.below in
    let q = c.index_mut-queue.result.now in
    let there : c.spot.result < length i.queues.items = omega (arith, c.self.invariant.all_rows, length-map i.queues.items (λ queue. queue.items), c.spot.ensures.below) in
    let held = at_spot (λ queue. queue.items) i.queues.items c.spot.result (c.args.from * 16 + c.args.me) q c.spot.ensures.value there c.index_mut-queue.ensures.value in
    let long : deque_len q ≡ length q.items = search rules in
    let left = some_left c.front.result (deque_len q) c.in-Some.frame c.front.ensures.variant c.in-Some.is in
    let a_is = actor_read s i.capacity progress i.actors.items rows c.self.invariant c.args.me below c.index_of.result c.index_mut.result.now c.index_of.ensures c.index_mut.ensures.value in
    let t_is = c.in_ok-take.ensures.ok ∙ ap one_more a_is in
    take_moved s i.capacity progress i.actors.items rows c.self.invariant c.args.me below c.args.self.now _ l c.args.from c.self.view_is next (omega (arith, left, long, ap length held)) (progress_on s i.capacity progress i.actors.items rows c.self.invariant c.args.me below c.index_of.result c.take.new.self c.index_of.ensures refl t_is)
