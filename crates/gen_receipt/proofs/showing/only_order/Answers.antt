use Rattle.std.proofs.Common.{◌≡◌, length, arith}
use Rattle.gen_receipt.proofs.OrdersShown.{none_got, one_alone, only_got}
use Rattle.gen_receipt.proofs.showing.only_order.Goals as goal

pub returns-then-len-ne1-clause-none : goal.returns-then-len-ne1-clause-none
returns-then-len-ne1-clause-none c = λ order only.
    let one : length c.orders_shown-shown.result ≡ 1 = one_alone c.args.header.now c.args.receipts.now c.orders_shown-shown.result order c.orders_shown-shown.ensures only in
    absurd (omega (arith, one, c.len.ensures.length, c.if-len-ne1.true))

pub returns-clause-some : goal.returns-clause-some
returns-clause-some c =
    let one : length c.orders_shown-shown.result ≡ 1 = omega (arith, c.len.ensures.length, c.if-len-ne1.false) in
    only_got c.args.header.now c.args.receipts.now c.orders_shown-shown.result c.get.result c.orders_shown-shown.ensures one c.get.ensures.member

pub returns-clause-none : goal.returns-clause-none
returns-clause-none c =
    let one : length c.orders_shown-shown.result ≡ 1 = omega (arith, c.len.ensures.length, c.if-len-ne1.false) in
    none_got _ c.orders_shown-shown.result c.get.result one c.get.ensures.member
