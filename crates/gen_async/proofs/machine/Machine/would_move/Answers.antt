use Rattle.std.proofs.Common.{◌≡◌, ◌<◌, ◌+◌, ◌*◌, sym, ap, ◌∙◌, map, length, Some, arith, rules, deque_len}
use Rattle.std.proofs.lemmas.List.{length-map}
use Rattle.gen_async.specs.declared.acts.Act.{Act}
use Rattle.gen_async.specs.Running.{progress_of}
use Rattle.gen_async.proofs.Acting.{below_inside, act_read, would_none, would_put, would_take}
use Rattle.gen_async.proofs.Tables.{at_spot}
use Rattle.gen_async.proofs.machine.Machine.would_move.Goals as goal

pub returns-in_default : goal.returns-in_default
returns-in_default c =
    let i = c.self.inside in
    let s = i.scenario in
    let below = below_inside c.args.self.now s i.capacity (progress_of i.actors.items) c.args.me c.self.view_is c.requires.below in
    let reads = act_read s i.capacity (progress_of i.actors.items) i.actors.items (map (λ queue. queue.items) i.queues.items) c.self.invariant c.args.me below c.index_of.result c.index.result.now c.index_of.ensures c.index.ensures in
    would_none s i.capacity (progress_of i.actors.items) i.actors.items (map (λ queue. queue.items) i.queues.items) c.self.invariant c.args.me below c.args.self.now c.self.view_is (sym reads ∙ sym c.next.ensures ∙ c.in_default.is)

pub returns-in-Puts : goal.returns-in-Puts
returns-in-Puts c =
    let i = c.self.inside in
    let s = i.scenario in
    let below = below_inside c.args.self.now s i.capacity (progress_of i.actors.items) c.args.me c.self.view_is c.requires.below in
    let reads = act_read s i.capacity (progress_of i.actors.items) i.actors.items (map (λ queue. queue.items) i.queues.items) c.self.invariant c.args.me below c.index_of.result c.index.result.now c.index_of.ensures c.index.ensures in
    let q = c.index-in-Puts.result.now in
    let there : c.spot.result < length i.queues.items = omega (arith, c.self.invariant.all_rows, length-map i.queues.items (λ queue. queue.items), c.spot.ensures.below) in
    let held = at_spot (λ queue. queue.items) i.queues.items c.spot.result (c.args.me * 16 + c.in-Puts.to) q c.spot.ensures.value there c.index-in-Puts.ensures in
    let long : deque_len q ≡ length q.items = search rules in
    would_put s i.capacity (progress_of i.actors.items) i.actors.items (map (λ queue. queue.items) i.queues.items) c.self.invariant c.args.me below c.args.self.now c.self.view_is c.in-Puts.field-0 c.in-Puts.to c.len.result (sym reads ∙ sym c.next.ensures ∙ c.in-Some.is ∙ ap (λ (z : Act). Some z) c.in-Puts.is) (c.len.ensures ∙ long ∙ ap length held)

pub returns-in-Takes : goal.returns-in-Takes
returns-in-Takes c =
    let i = c.self.inside in
    let s = i.scenario in
    let below = below_inside c.args.self.now s i.capacity (progress_of i.actors.items) c.args.me c.self.view_is c.requires.below in
    let reads = act_read s i.capacity (progress_of i.actors.items) i.actors.items (map (λ queue. queue.items) i.queues.items) c.self.invariant c.args.me below c.index_of.result c.index.result.now c.index_of.ensures c.index.ensures in
    let q = c.index-in-Takes.result.now in
    let there : c.spot-in-Takes.result < length i.queues.items = omega (arith, c.self.invariant.all_rows, length-map i.queues.items (λ queue. queue.items), c.spot-in-Takes.ensures.below) in
    let held = at_spot (λ queue. queue.items) i.queues.items c.spot-in-Takes.result (c.in-Takes.from * 16 + c.args.me) q c.spot-in-Takes.ensures.value there c.index-in-Takes.ensures in
    let long : deque_len q ≡ length q.items = search rules in
    would_take s i.capacity (progress_of i.actors.items) i.actors.items (map (λ queue. queue.items) i.queues.items) c.self.invariant c.args.me below c.args.self.now c.self.view_is c.in-Takes.field-0 c.in-Takes.from c.len-in-Takes.result (sym reads ∙ sym c.next.ensures ∙ c.in-Some.is ∙ ap (λ (z : Act). Some z) c.in-Takes.is) (c.len-in-Takes.ensures ∙ long ∙ ap length held)
