use Rattle.std.proofs.Common.{◌≡◌, ◌<◌, ◌++◌, ◌∙◌, [], ap, arith, length, List}
use Rattle.std.proofs.lemmas.List.{length-set}
use Rattle.gen_scenario.specs.Rows.{FrameRow}
use Rattle.gen_general.specs.DrivenRecords.{RecordsAfter, HasHeard}
use Rattle.gen_general.proofs.Worlds.{set_done, set_rest, grows, sender_rows, senders_none, senders_all}
use Rattle.gen_world.proofs.world.send_all.Goals as goal

pub senders-init : goal.senders-init
senders-init c = record {
  count = c.requires.all.count;
  done = λ g d none. absurd (omega (arith, none));
  rest = λ g d above below. c.requires.all.each g d below;
  frames = senders_none c.args.scenario.now c.args.gone c.args.frames.now.items;
}

pub senders-preserved : goal.senders-preserved
senders-preserved c =
    let s = c.args.scenario.now in
    let k = c.args.gone in
    let n = c.senders.number in
    let parts = c.senders.parts.items in
    let part = c.send_all_of.new.part in
    let sent = rw c.at.ensures at c.in_ok-send_all_of.ensures.sent in
    let frames = rw c.at.ensures at c.in_ok-send_all_of.ensures.frames in
    let known : n < s.net.generals = omega (arith, c.senders-test.true, c.senders.auto.number-end, c.generals-number-end.ensures.value, ap (λ x. x.generals) c.net.ensures.value, ap (λ x. x.network.generals) c.header.ensures.value) in
    let within : n < length parts = omega (arith, known, c.senders.invariant.count) in
    let done = set_done (λ g r. HasHeard s k g [] r) parts n part within c.senders.invariant.done sent in
    let rest = set_rest (λ g r. RecordsAfter s k g r) parts n s.net.generals part c.senders.invariant.rest in
    record {
      count = length-set parts c.from.result part ∙ c.senders.invariant.count;
      done = rw c.from.ensures done;
      rest = rw c.from.ensures rest;
      frames = grows _ _ _ _ _ _ frames c.senders.invariant.frames (sender_rows s k n);
    }

pub returns-clause-frames : goal.returns-clause-frames
returns-clause-frames c =
    let s = c.args.scenario.now in
    let stop : c.senders.number ≡ s.net.generals = omega (arith, c.senders-test.false, c.senders.auto.number-end, c.generals-number-end.ensures.value, ap (λ x. x.generals) c.net.ensures.value, ap (λ x. x.network.generals) c.header.ensures.value) in
    let all = rw stop at c.senders.invariant.frames in
    all ∙ ap (λ (xs : List FrameRow). c.args.frames.now.items ++ xs) (senders_all s c.args.gone)
