use Rattle.std.proofs.Common.{◌≡◌, ◌↔◌, ◌⊎◌, IsTrue, Contains, ap, arith}
use Rattle.gen_types.specs.Ascending.{IsListOf}
use Rattle.gen_net.specs.Network.{Network}
use Rattle.gen_receipt.specs.Shown.{IsShown}
use Rattle.gen_receipt.proofs.OrdersShown.{all_shown, order_added, order_passed}
use Rattle.gen_receipt.proofs.showing.orders_shown.Goals as goal
use Rattle.gen_receipt.proofs.showing.orders_shown.Goals.{then-is_shown, else-is_shown}

pub orders-preserved : goal.orders-preserved
orders-preserved c =
    let h = c.args.header.now in
    let rs = c.args.receipts.now in
    let k = c.orders.number in
    let told : IsTrue c.is_shown.result ↔ IsShown h rs k = rw c.at-order.ensures at c.is_shown.ensures in
    elim c.if-is_shown.branch [
      | then-is_shown w ↦
          let members : IsListOf w.insert.new.self (λ v. Contains c.orders.shown v ⊎ (v ≡ k)) = rw c.at-order.ensures at w.insert.ensures.members in
          rw w.shown-is (order_added h rs k c.orders.shown _ c.orders.invariant (told.0 w.if-is_shown.true) members)
      | else-is_shown w ↦
          rw w.shown-is (order_passed h rs k c.orders.shown c.orders.invariant (λ shown. let t = told.1 shown in let f = w.if-is_shown.false in absurd cc))
    ]

pub returns : goal.returns
returns c =
    let h = c.args.header.now in
    let orders : c.net-net.result.now.orders ≡ h.network.orders = ap (λ (n : Network). n.orders) c.net-net.ensures.value in
    all_shown h c.args.receipts.now c.orders.number c.orders.shown c.requires (omega (arith, orders, c.orders-test.false, c.orders.auto.number-end)) c.orders.invariant
