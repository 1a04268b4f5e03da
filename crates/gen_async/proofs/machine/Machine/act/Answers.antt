use Rattle.std.proofs.Common.{sym, ap, ◌∙◌, map, Some}
use Rattle.gen_async.specs.declared.acts.Act.{Act}
use Rattle.gen_async.specs.Running.{progress_of}
use Rattle.gen_async.proofs.Acting.{next_outside, below_inside, act_read, act_done}
use Rattle.gen_async.proofs.machine.Machine.act.Goals as goal

pub returns-in_default-clause-ok : goal.returns-in_default-clause-ok
returns-in_default-clause-ok c =
    let i = c.self.inside in
    let s = i.scenario in
    let below = below_inside c.args.self.now s i.capacity (progress_of i.actors.items) c.args.me c.self.view_is c.requires.below in
    let reads = act_read s i.capacity (progress_of i.actors.items) i.actors.items (map (λ queue. queue.items) i.queues.items) c.self.invariant c.args.me below c.index_of.result c.index.result.now c.index_of.ensures c.index.ensures in
    act_done s i.capacity (progress_of i.actors.items) i.actors.items (map (λ queue. queue.items) i.queues.items) c.self.invariant c.args.me below c.args.self.now c.self.view_is (sym reads ∙ sym c.next.ensures ∙ c.in_default.is)

pub put-requires-clause-next : goal.put-requires-clause-next
put-requires-clause-next c =
    let i = c.self.inside in
    let s = i.scenario in
    let below = below_inside c.args.self.now s i.capacity (progress_of i.actors.items) c.args.me c.self.view_is c.requires.below in
    let reads = act_read s i.capacity (progress_of i.actors.items) i.actors.items (map (λ queue. queue.items) i.queues.items) c.self.invariant c.args.me below c.index_of.result c.index.result.now c.index_of.ensures c.index.ensures in
    (c.in-Puts.field-0, next_outside c.args.self.now s i.capacity (progress_of i.actors.items) c.args.me _ c.self.view_is (sym reads ∙ sym c.next.ensures ∙ c.in-Some.is ∙ ap (λ (z : Act). Some z) c.in-Puts.is))

pub take-requires-clause-next : goal.take-requires-clause-next
take-requires-clause-next c =
    let i = c.self.inside in
    let s = i.scenario in
    let below = below_inside c.args.self.now s i.capacity (progress_of i.actors.items) c.args.me c.self.view_is c.requires.below in
    let reads = act_read s i.capacity (progress_of i.actors.items) i.actors.items (map (λ queue. queue.items) i.queues.items) c.self.invariant c.args.me below c.index_of.result c.index.result.now c.index_of.ensures c.index.ensures in
    (c.in-Takes.field-0, next_outside c.args.self.now s i.capacity (progress_of i.actors.items) c.args.me _ c.self.view_is (sym reads ∙ sym c.next.ensures ∙ c.in-Some.is ∙ ap (λ (z : Act). Some z) c.in-Takes.is))
