use Rattle.std.proofs.Common.{◌<◌, ap, arith}
use Rattle.gen_world.proofs.ParticipantHearing.{receivers_done, receivers_rest}
use Rattle.gen_world.proofs.world_decisions.hear_all.Goals as goal

pub receivers-init : goal.receivers-init
receivers-init c = record {
  all = record { count = c.requires.all.count; each = λ g d below. (c.requires.all.each g d below).0 };
  done = λ g d none. absurd (omega (arith, none));
  rest = λ g d above below. (c.requires.all.each g d below).1;
  serves = c.requires.serves;
}

pub receivers-preserved : goal.receivers-preserved
receivers-preserved c =
    let s = c.args.scenario.now in
    let k = c.args.gone in
    let n = c.receivers.number in
    let e = rw c.at-to.ensures at c.in_ok-hear_all_of.ensures.heard in
    let others = rw c.at-to.ensures at c.in_ok-hear_all_of.ensures.others in
    let known : n < s.net.generals = omega (arith, c.receivers-test.true, c.receivers.auto.number-end, c.generals-number-end.ensures.value, ap (λ x. x.generals) c.net.ensures.value, ap (λ x. x.network.generals) c.header.ensures.value) in
    record {
      all = c.in_ok-hear_all_of.ensures.all;
      done = receivers_done s k n c.receivers.parts.items c.hear_all_of.new.parts.items known c.receivers.invariant.done c.receivers.invariant.rest e others;
      rest = receivers_rest s k n c.receivers.parts.items c.hear_all_of.new.parts.items c.receivers.invariant.rest others;
      serves = c.in_ok-hear_all_of.ensures.serves;
    }
