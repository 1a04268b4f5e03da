use Rattle.gen_async.proofs.Ending.{done_front, ended_one}
use Rattle.gen_async.proofs.machine.finish_all.Goals as goal

pub loop-actor-preserved : goal.loop-actor-preserved
loop-actor-preserved c =
    let e = rw c.in-Some.is at c.pop.ensures.items in
    record {
      done = done_front c.loop-actor.actors.items c.pop.new.self.items c.in-Some.actor e c.loop-actor.invariant.done;
      logs = ended_one c.loop-actor.actors.items c.pop.new.self.items c.args.actors.now.items c.in-Some.actor c.loop-actor.logs.items c.finish.new.logs.items c.loop-actor.invariant.logs e c.in_ok-finish.ensures;
    }
