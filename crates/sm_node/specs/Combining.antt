-- What is told of the order that a rule makes of orders.
use Rattle.std.specs.Prelude.{ℕ, ◌≡◌, ◌<◌, ◌⊎◌, List, [], All, Option, Some, None}
use Rattle.std.specs.declared.alloc.Global.{Global}
use Rattle.std.specs.declared.vec.Vec.{Vec}
use Rattle.gen_combine.specs.declared.combining.Combination.{Combination}
use Rattle.gen_combine.specs.Combined.{IsCombined}
use Rattle.gen_combine.specs.Numbered.{combination_numbered}
use Rattle.sm_node.specs.declared.told.NodeReply.{NodeReply}
use Rattle.sm_node.specs.declared.told.NodeReply.TheVariants.{Done, Misuse, Fault, Memory, Length}
use Rattle.sm_node.specs.Starting.{no_order}

-- each number is an order's
abbrev pub AreOrders : List ℕ → Type 0
AreOrders numbers = All (λ number. number < 16) numbers

-- the orders of the numbers were read; or one of the numbers is no order's
abbrev pub AreRead : List ℕ → Option (Vec ℕ Global) → Type 0
AreRead numbers (Some orders) = AreOrders numbers × (orders.items ≡ numbers)
AreRead numbers None = AreOrders numbers → ⊥

-- the told order is what the rule of this number makes of the orders; or no order is told, and the answer
-- says why
abbrev pub Combines : ℕ → List ℕ → ℕ → NodeReply → Type 0
Combines combination orders order Done =
    AreOrders orders × (orders ≡ [] → ⊥)
    × ((rule : Combination) × (combination_numbered combination ≡ Some rule) × IsCombined rule orders order)
Combines combination orders order Misuse =
    (order ≡ no_order)
    × ((combination_numbered combination ≡ None) ⊎ (AreOrders orders → ⊥) ⊎ (orders ≡ []))
Combines combination orders order Memory = order ≡ no_order
Combines combination orders order Fault = ⊥
Combines combination orders order Length = ⊥
