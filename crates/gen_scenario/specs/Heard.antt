-- What a general has heard: the chains that counted at that general, each with its sender, in the order of
-- rounds, then senders, then parcels.
use Rattle.std.specs.Prelude.{ℕ, ◌==◌, ◌&&◌, if◌then◌else◌, List, [], ◌∷◌, length, filter, Option, Some, None}
use Rattle.std.specs.List.{range_with_len, list_any}
use Rattle.gen_chain.specs.Chain.{signed_path}
use Rattle.gen_scenario.specs.declared.heard.Heard.{Heard}

-- the round in which a chain was heard, which is the number of its signers
abbrev pub round_of : Heard → ℕ
round_of x = length (signed_path x.chain.signers)

-- The first chain of an order that a general heard: it came in the round in which the general adds the order,
-- from the least sender.
unfoldable pub first_of : ℕ → List Heard → Option Heard
first_of order [] = None
first_of order (x ∷ others) = if x.chain.order == order then Some x else first_of order others

-- the first chain of an order that came from a sender in a round
unfoldable pub heard_from : ℕ → ℕ → ℕ → List Heard → Option Heard
heard_from round from order [] = None
heard_from round from order (x ∷ others) =
    if x.from == from && (x.chain.order == order && round_of x == round) then Some x
    else heard_from round from order others

-- the orders that were heard, in ascending order
unfoldable pub orders_heard : ℕ → List Heard → List ℕ
orders_heard orders heard = filter (λ v. list_any (λ x. x.chain.order == v) heard) (range_with_len 0 orders)
