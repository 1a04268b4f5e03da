-- A run with a traitor. There are three generals, all neighbours, and the commander is faulty: it gives order
-- 0 to one lieutenant and order 1 to the other. Both lieutenants follow: each relays its order to the other
-- in round 2, so each accepts both orders.
use Rattle.std.specs.Prelude.{ℕ, ◌==◌, if◌then◌else◌, ◌<◌, ◌↔◌, List, [], ◌∷◌}
use Rattle.gen_types.specs.declared.choices.ChoiceKind.TheVariants.{Only}
use Rattle.gen_net.specs.Network.{Network}
use Rattle.gen_net.specs.declared.message.Message.{Message}
use Rattle.gen_net.specs.Run.{Run}
use Rattle.gen_net.specs.Follows.{Relays}
use Rattle.gen_scenario.specs.Theorem.{Case, IsLoyalLieutenant, AcceptsHere}

-- three generals, all neighbours, with m = 1, d = 1 and two orders
abbrev pub three : Network
three = record {
  generals = 3;
  edges = (0, 1) ∷ (0, 2) ∷ (1, 2) ∷ [];
  traitors = 1;
  diameter = 1;
  orders = 2;
  choice = Only;
}

-- the messages of round 1
abbrev pub zero_to_1 : Message
zero_to_1 = record { from = 0; to = 1; order = 0; path = 0 ∷ [] }

abbrev pub one_to_2 : Message
one_to_2 = record { from = 0; to = 2; order = 1; path = 0 ∷ [] }

-- the messages of round 2
abbrev pub zero_from_1 : Message
zero_from_1 = record { from = 1; to = 2; order = 0; path = 0 ∷ 1 ∷ [] }

abbrev pub one_from_2 : Message
one_from_2 = record { from = 2; to = 1; order = 1; path = 0 ∷ 2 ∷ [] }

abbrev pub two_orders : Run
two_orders = zero_to_1 ∷ one_to_2 ∷ zero_from_1 ∷ one_from_2 ∷ []

-- the path that a lieutenant picks for an order: general 1 gets order 0 from the commander and order 1 from
-- general 2, general 2 the other way round
abbrev pub taken : ℕ → ℕ → List ℕ
taken g v = if g == 1
    then (if v == 0 then 0 ∷ [] else 0 ∷ 2 ∷ [])
    else (if v == 0 then 0 ∷ 1 ∷ [] else 0 ∷ [])

abbrev pub two_orders_case : Case
two_orders_case = record {
  net = three;
  faulty = 0 ∷ [];
  run = two_orders;
  conducts = λ g. Relays (taken g);
}

-- each lieutenant accepts both orders
abbrev pub BothAccepted : Type 0
BothAccepted =
    (g v : ℕ) → IsLoyalLieutenant two_orders_case g
    → AcceptsHere two_orders_case g v ↔ (v < 2)
