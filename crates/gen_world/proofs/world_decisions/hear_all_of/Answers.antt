use Rattle.std.proofs.Common.{◌∙◌}
use Rattle.gen_general.proofs.Worlds.{grows}
use Rattle.gen_world.proofs.ParticipantHearing.{hears_more}
use Rattle.gen_world.proofs.world_decisions.hear_all_of.Goals as goal

pub senders-preserved : goal.senders-preserved
senders-preserved c =
    let s = c.args.scenario.now in
    let k = c.args.gone in
    let to = c.args.to in
    let n = c.senders.number in
    let heard = rw c.at-from.ensures at c.in_ok-hear_one.ensures.heard in
    record {
      all = c.in_ok-hear_one.ensures.all;
      heard = λ d. grows _ _ _ _ _ _ (heard d) (c.senders.invariant.heard d) (hears_more s k to n);
      others = λ g d ne. c.in_ok-hear_one.ensures.others g d ne ∙ c.senders.invariant.others g d ne;
      serves = c.in_ok-hear_one.ensures.serves;
    }
