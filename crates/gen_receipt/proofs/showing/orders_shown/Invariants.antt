use Rattle.gen_receipt.proofs.OrdersShown.{AreBelow}
use Rattle.gen_receipt.proofs.showing.orders_shown.Given as goal

abbrev pub invariant-orders : goal.invariant-orders
invariant-orders l = AreBelow l.header l.receipts l.shown l.number
