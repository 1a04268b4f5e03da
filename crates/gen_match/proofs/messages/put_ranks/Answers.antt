use Rattle.gen_match.specs.Messages.{rank_lacked}
use Rattle.gen_match.proofs.Keys.{search_missed}
use Rattle.gen_match.proofs.Rest.{element_step}
use Rattle.gen_match.proofs.messages.put_ranks.Goals as goal

pub loop-key-preserved : goal.loop-key-preserved
loop-key-preserved c =
    let missed = search_missed c.args.others.now c.in-Some.key.now _ c.requires c.in-Err.ensures.position in
    element_step (rank_lacked c.args.others.now) c.loop-key.ranks.items c.push.new.self.items _ c.loop-key.rest.now c.in-Some.behind.now c.in-Some.key.now c.in-Some.ensures.cases.0 (rw missed c.in_ok-push-in-Err.ensures.items) c.loop-key.invariant
