use Rattle.std.proofs.Common.{ℕ, ◌≡◌, ◌<◌, slice_index_or, take}
use Rattle.sm_node.proofs.combining.orders_of.Given as goal

abbrev pub invariant-orders : goal.invariant-orders
invariant-orders l =
    (l.orders.items ≡ take l.number-index l.numbers)
    × ((k d : ℕ) → k < l.number-index → slice_index_or l.numbers k d < 16)
