use Rattle.std.proofs.Common.{◌<◌, ◌∙◌, subst}
use Rattle.gen_log.specs.Entry.{erase}
use Rattle.gen_local.proofs.OrderTables.{brought_one, brought_none}
use Rattle.gen_local.proofs.bringing.bring.Goals as goal

pub returns-in-Some : goal.returns-in-Some
returns-in-Some c =
    let low : c.in-Some.order < 16 = subst (λ n. n < 16) c.get.ensures.value c.get.ensures.below in
    brought_one c.args.net.now c.args.general c.args.orders.now (erase c.args.entry.now) c.in-Some.order c.from-index.result c.brought.result c.index-orders-index.result c.requires.full low (c.from-index.ensures ∙ c.get.ensures.value) c.in-Some.ensures.order c.brought.ensures

pub returns-in_default : goal.returns-in_default
returns-in_default c = brought_none c.args.net.now c.args.general c.args.orders.now (erase c.args.entry.now) c.order_of.result c.requires.full c.in_default.not-Some c.order_of.ensures.order
