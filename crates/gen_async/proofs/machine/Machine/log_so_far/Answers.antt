use Rattle.std.proofs.Common.{map}
use Rattle.gen_async.specs.Running.{progress_of}
use Rattle.gen_async.proofs.Acting.{below_inside}
use Rattle.gen_async.proofs.SoFar.{so_far_is}
use Rattle.gen_async.proofs.machine.Machine.log_so_far.Goals as goal

pub returns-clause-value : goal.returns-clause-value
returns-clause-value c =
    let i = c.self.inside in
    let below = below_inside c.args.self.now i.scenario i.capacity (progress_of i.actors.items) c.args.me c.self.view_is c.requires.below in
    (so_far_is i.scenario i.capacity (progress_of i.actors.items) i.actors.items (map (λ queue. queue.items) i.queues.items) c.self.invariant c.args.me below c.args.self.now c.self.view_is c.index_of.result c.index-actor.result.now c.index_of.ensures c.index-actor.ensures c.log_so_far-written.result.now c.decide-last.result c.next.result c.log_so_far-written.ensures c.next.ensures c.decide-last.ensures.acting c.decide-last.ensures.done).value

pub returns-clause-decide : goal.returns-clause-decide
returns-clause-decide c =
    let i = c.self.inside in
    let below = below_inside c.args.self.now i.scenario i.capacity (progress_of i.actors.items) c.args.me c.self.view_is c.requires.below in
    (so_far_is i.scenario i.capacity (progress_of i.actors.items) i.actors.items (map (λ queue. queue.items) i.queues.items) c.self.invariant c.args.me below c.args.self.now c.self.view_is c.index_of.result c.index-actor.result.now c.index_of.ensures c.index-actor.ensures c.log_so_far-written.result.now c.decide-last.result c.next.result c.log_so_far-written.ensures c.next.ensures c.decide-last.ensures.acting c.decide-last.ensures.done).decide

pub returns-clause-begins : goal.returns-clause-begins
returns-clause-begins c =
    let i = c.self.inside in
    let below = below_inside c.args.self.now i.scenario i.capacity (progress_of i.actors.items) c.args.me c.self.view_is c.requires.below in
    (so_far_is i.scenario i.capacity (progress_of i.actors.items) i.actors.items (map (λ queue. queue.items) i.queues.items) c.self.invariant c.args.me below c.args.self.now c.self.view_is c.index_of.result c.index-actor.result.now c.index_of.ensures c.index-actor.ensures c.log_so_far-written.result.now c.decide-last.result c.next.result c.log_so_far-written.ensures c.next.ensures c.decide-last.ensures.acting c.decide-last.ensures.done).begins

pub returns-clause-whole : goal.returns-clause-whole
returns-clause-whole c =
    let i = c.self.inside in
    let below = below_inside c.args.self.now i.scenario i.capacity (progress_of i.actors.items) c.args.me c.self.view_is c.requires.below in
    (so_far_is i.scenario i.capacity (progress_of i.actors.items) i.actors.items (map (λ queue. queue.items) i.queues.items) c.self.invariant c.args.me below c.args.self.now c.self.view_is c.index_of.result c.index-actor.result.now c.index_of.ensures c.index-actor.ensures c.log_so_far-written.result.now c.decide-last.result c.next.result c.log_so_far-written.ensures c.next.ensures c.decide-last.ensures.acting c.decide-last.ensures.done).whole
