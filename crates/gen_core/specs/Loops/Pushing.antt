-- What a lieutenant has to send, found for one receiver and one order after another.
use Rattle.std.specs.Prelude.{ℕ, ◌≡◌, ◌<◌, ◌⊎◌, List, All, AllPairs, Option}
use Rattle.gen_net.specs.Network.{Network}
use Rattle.gen_core.specs.declared.sending.Outgoing.{Outgoing}
use Rattle.gen_core.specs.Sending.{GoesBefore, IsDue}

-- the chain goes to this receiver, has an order below n, and g has to send it
abbrev pub IsDueBelow : Network → ℕ → List (Option (List ℕ)) → ℕ → ℕ → Outgoing → Type 0
IsDueBelow net g adds to n x = (x.to ≡ to) × (x.order < n) × IsDue net g adds x

-- the list is in order, and each of its chains goes before a chain of this order to this receiver
pub record GoesUpTo (out : List Outgoing) (to order : ℕ) : Type 0 where
  pub in_order : AllPairs GoesBefore out
  pub before : All (λ x. (x.to < to) ⊎ ((x.to ≡ to) × (x.order < order))) out
