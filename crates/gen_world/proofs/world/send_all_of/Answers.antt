use Rattle.std.proofs.Common.{◌≡◌, sym, ap, arith}
use Rattle.std.proofs.lemmas.List.{append-nil}
use Rattle.gen_general.proofs.Worlds.{grows, rows_more}
use Rattle.gen_general.proofs.Recorders.{begins, sent_to_last}
use Rattle.gen_world.proofs.world.send_all_of.Goals as goal

pub receivers-init : goal.receivers-init
receivers-init c = record {
  sent = begins c.args.scenario.now c.args.gone c.args.from c.args.part.now c.begin_round.new.self c.requires.stands c.in_ok-begin_round.ensures.ok;
  frames = sym (append-nil c.args.frames.now.items);
}

pub receivers-preserved : goal.receivers-preserved
receivers-preserved c =
    let s = c.args.scenario.now in
    let frames = rw c.at-to.ensures at c.in_ok-send_one.ensures.frames in
    let sent = rw c.at-to.ensures at c.in_ok-send_one.ensures.sent in
    record {
      sent = sent;
      frames = grows _ _ _ _ _ _ frames c.receivers.invariant.frames (rows_more s c.args.gone c.args.from c.receivers.number);
    }

pub returns-clause-sent : goal.returns-clause-sent
returns-clause-sent c =
    let s = c.args.scenario.now in
    let stop : c.receivers.number ≡ s.net.generals = omega (arith, c.receivers-test.false, c.receivers.auto.number-end, c.generals-number-end.ensures.value, ap (λ x. x.generals) c.net.ensures.value, ap (λ x. x.network.generals) c.header.ensures.value) in
    sent_to_last s c.args.gone c.args.from c.receivers.number c.receivers.part stop c.receivers.invariant.sent
