use Rattle.std.proofs.Common.{◌≡◌, ◌∙◌, ◌<◌, ◌+◌, ◌*◌, ap, length, map, rules, arith, deque_len}
use Rattle.std.proofs.lemmas.List.{length-map}
use Rattle.gen_async.specs.Running.{progress_of}
use Rattle.gen_async.proofs.Acting.{queued_outside}
use Rattle.gen_async.proofs.Tables.{at_spot}
use Rattle.gen_async.proofs.machine.Machine.queued.Goals as goal

pub returns : goal.returns
returns c =
    let i = c.self.inside in
    let q = c.index.result.now in
    let there : c.spot.result < length i.queues.items = omega (arith, c.self.invariant.all_rows, length-map i.queues.items (λ queue. queue.items), c.spot.ensures.below) in
    let held = at_spot (λ queue. queue.items) i.queues.items c.spot.result (c.args.from * 16 + c.args.to) q c.spot.ensures.value there c.index.ensures in
    let long : deque_len q ≡ length q.items = search rules in
    queued_outside i.scenario i.capacity (progress_of i.actors.items) i.actors.items (map (λ queue. queue.items) i.queues.items) c.self.invariant c.args.self.now c.self.view_is c.args.from c.args.to (search rules) (search rules) c.len.result (c.len.ensures ∙ long ∙ ap length held)
