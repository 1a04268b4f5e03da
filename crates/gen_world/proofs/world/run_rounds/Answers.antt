use Rattle.std.proofs.Common.{rules, arith, ◌≡◌, ◌∙◌, refl, ap, subst, reverse, length}
use Rattle.std.specs.List.{flat_map}
use Rattle.std.proofs.lemmas.List.{reverse-reverse}
use Rattle.gen_general.specs.Recording.{logs_written}
use Rattle.gen_general.specs.DrivenRecords.{RecordsAfter, AllRecord}
use Rattle.gen_general.proofs.Worlds.{pushed_each, length_pushed, rows_none, rows_round, rows_all}
use Rattle.gen_net.specs.Network.{rounds}
use Rattle.gen_general.proofs.Recorders.{all_logs, none_left}
use Rattle.gen_world.proofs.world.run_rounds.Goals as goal

pub generals-preserved : goal.generals-preserved
generals-preserved c =
    let s = c.args.scenario.now in
    let n = c.generals.number in
    let items = rw c.unwrap.ensures at c.push.ensures.items in
    let len = rw c.unwrap.ensures at c.push.ensures.len in
    let made = rw c.at.ensures at c.in_ok-part.ensures in
    record {
      count = length_pushed c.generals.parts.items c.push.new.self.items n c.in_ok-part.part c.generals.invariant.count items;
      len = omega (arith, len, c.generals.invariant.len);
      room = omega (arith, c.push.ensures.capacity, c.generals.invariant.room);
      each = pushed_each (RecordsAfter s 0) c.generals.parts.items c.push.new.self.items n c.in_ok-part.part c.generals.invariant.count items c.generals.invariant.each made;
    }

pub rounds-init : goal.rounds-init
rounds-init c =
    let made : AllRecord c.args.scenario.now 0 c.generals.parts.items = search rules in
    record {
      all = made;
      frames = rows_none c.args.scenario.now c.new-frames.result.items c.new-frames.ensures.items;
    }

pub rounds-preserved : goal.rounds-preserved
rounds-preserved c = record {
  all = c.in_ok-hear_all.ensures;
  frames = rows_round c.args.scenario.now c.rounds.gone c.rounds.frames.items c.send_all.new.frames.items c.rounds.invariant.frames c.in_ok-send_all.ensures.frames;
}

pub returns-clause-frames : goal.returns-clause-frames
returns-clause-frames c =
    let s = c.args.scenario.now in
    let stop : c.rounds.gone ≡ rounds s.net = omega (arith, c.rounds-test.false, c.rounds.auto.gone-end, c.rounds-gone-end.ensures.value, ap rounds (c.net-2.ensures.value ∙ ap (λ h. h.network) c.header-2.ensures.value)) in
    rows_all s c.rounds.gone c.rounds.frames.items stop c.rounds.invariant.frames

pub loop-part-init : goal.loop-part-init
loop-part-init c = rw c.new-logs.ensures.items refl

pub returns-clause-logs : goal.returns-clause-logs
returns-clause-logs c =
    let s = c.args.scenario.now in
    let parts = c.rounds.parts.items in
    let stop : c.rounds.gone ≡ rounds s.net = omega (arith, c.rounds-test.false, c.rounds.auto.gone-end, c.rounds-gone-end.ensures.value, ap rounds (c.net-2.ensures.value ∙ ap (λ h. h.network) c.header-2.ensures.value)) in
    let turned : reverse c.reverse.new.self.items ≡ parts = ap reverse c.reverse.ensures.items ∙ reverse-reverse parts in
    let none : length c.loop-part.parts.items ≡ 0 = omega (arith, c.in_default.ensures.cases.0, c.loop-part.parts.ok.0, c.loop-part.parts.ok.1) in
    none_left c.loop-part.logs.items c.loop-part.parts.items (reverse c.reverse.new.self.items) none c.loop-part.invariant
    ∙ ap (flat_map logs_written) turned ∙ all_logs s parts (subst (λ k. AllRecord s k parts) stop c.rounds.invariant.all)
