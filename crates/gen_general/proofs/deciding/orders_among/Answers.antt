use Rattle.std.proofs.Common.{◌≡◌, ◌↔◌, IsTrue, arith, rules}
use Rattle.gen_general.specs.Loops.Deciding.{HasHeard}
use Rattle.gen_general.proofs.HeardOrders.{heard_start, heard_step, heard_end, noted, not_noted}
use Rattle.gen_general.proofs.deciding.orders_among.Goals as goal

pub orders-init : goal.orders-init
orders-init c = rw c.new-set.ensures (heard_start c.args.heard.now)

pub orders-preserved-then-not-any : goal.orders-preserved-then-not-any
orders-preserved-then-not-any c =
    let told : IsTrue c.any.result ↔ HasHeard c.args.heard.now c.at-order.result = search rules in
    heard_step c.args.heard.now c.orders.set c.orders.set c.orders.number c.orders.invariant
    (not_noted c.args.heard.now c.orders.set c.orders.number c.any.result c.orders.invariant.ascending (rw c.at-order.ensures at told) c.if-not-any.true)

pub orders-preserved : goal.orders-preserved
orders-preserved c =
    let told : IsTrue c.any.result ↔ HasHeard c.args.heard.now c.at-order.result = search rules in
    let has = rw c.at-order.ensures at (told.0 c.if-not-any.false) in
    let members = rw c.at-order.ensures at c.insert.ensures.members in
    heard_step c.args.heard.now c.orders.set c.insert.new.self c.orders.number c.orders.invariant (noted c.args.heard.now c.orders.set c.insert.new.self c.orders.number members has)

pub returns : goal.returns
returns c =
    let stop : c.orders.number ≡ c.args.orders = omega (arith, c.orders-test.false, c.orders.auto.number-end) in
    rw stop at (heard_end c.args.heard.now c.orders.set c.orders.number c.orders.invariant)
