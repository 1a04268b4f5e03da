use Rattle.std.proofs.Common.{◌≡◌, ◌∙◌, All, sym, arith, rules}
use Rattle.gen_scenario.specs.Heard.{first_of}
use Rattle.gen_general.specs.Loops.Relays.{IsRoom, due_of, one_or_none}
use Rattle.gen_general.proofs.Relaying.{count_none, count_more}
use Rattle.gen_general.proofs.following.rooms_for.Goals as goal

pub orders-init : goal.orders-init
orders-init c = record {
  count = c.new-rooms.ensures.len ∙ sym (count_none c.args.round c.args.heard.now);
  fit = rw c.new-rooms.ensures.items (λ k d below. absurd (omega (arith, below)));
}

pub orders-preserved-then-is_none : goal.orders-preserved-then-is_none
orders-preserved-then-is_none c =
    let none : one_or_none (due_of c.args.round (first_of c.at-order.result c.args.heard.now)) ≡ 0 = search rules in
    record {
      count = omega (arith, rw c.at-order.ensures at none, c.orders.invariant.count, count_more c.args.round c.args.heard.now c.orders.number);
      fit = c.orders.invariant.fit;
    }

pub orders-preserved : goal.orders-preserved
orders-preserved c =
    let one : one_or_none (due_of c.args.round (first_of c.at-order.result c.args.heard.now)) ≡ 1 = search rules in
    let fit : All (IsRoom c.args.header.now c.args.round) c.push.new.self.items = search rules in
    record {
      count = omega (arith, rw c.at-order.ensures at one, c.in_ok-push.ensures.len, c.orders.invariant.count, count_more c.args.round c.args.heard.now c.orders.number);
      fit = fit;
    }
