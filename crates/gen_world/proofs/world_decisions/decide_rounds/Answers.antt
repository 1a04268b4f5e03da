use Rattle.std.proofs.Common.{rules, arith}
use Rattle.gen_general.specs.Driving.{AllStand, StandsAfter}
use Rattle.gen_general.proofs.Worlds.{pushed_each, length_pushed}
use Rattle.gen_world.proofs.world_decisions.decide_rounds.Goals as goal

pub generals-preserved : goal.generals-preserved
generals-preserved c =
    let s = c.args.scenario.now in
    let n = c.generals.number in
    let items = rw c.unwrap.ensures at c.push.ensures.items in
    let len = rw c.unwrap.ensures at c.push.ensures.len in
    let made = rw c.at.ensures at c.in_ok-part.ensures in
    record {
      count = length_pushed c.generals.parts.items c.push.new.self.items n c.in_ok-part.part c.generals.invariant.count items;
      len = omega (arith, len, c.generals.invariant.len);
      room = omega (arith, c.push.ensures.capacity, c.generals.invariant.room);
      each = pushed_each (StandsAfter s 0) c.generals.parts.items c.push.new.self.items n c.in_ok-part.part c.generals.invariant.count items c.generals.invariant.each made;
    }

pub rounds-init : goal.rounds-init
rounds-init c =
    let made : AllStand c.args.scenario.now 0 c.generals.parts.items = search rules in
    record {
      all = made;
      serves = c.in_ok-store.ensures.serves _;
    }

pub rounds-preserved : goal.rounds-preserved
rounds-preserved c = record {
  all = c.in_ok-hear_all.ensures.all;
  serves = c.in_ok-hear_all.ensures.serves;
}
