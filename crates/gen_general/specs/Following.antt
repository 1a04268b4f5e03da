-- A general without a script: when it signs an order, and with which leaves of its ring.
use Rattle.std.specs.Prelude.{ℕ, ◌≡◌, ◌<◌, ◌+◌, ◌==◌, if◌then◌else◌, List, Option, Some, None, option_map, Contains}
use Rattle.gen_net.specs.Header.{RunHeader, height_of}
use Rattle.gen_chain.specs.Chain.{IsSignedChain, signed_path}
use Rattle.gen_chain.specs.Leaves.{leaf_of_order}
use Rattle.gen_scenario.specs.declared.heard.Heard.{Heard}
use Rattle.gen_scenario.specs.Heard.{round_of, first_of}

-- The round in which a general signs an order, if it signs it. The commander signs its own order in round 1.
-- A lieutenant signs an order in the round after the one in which it first heard the order.
abbrev pub round_signed : Option ℕ → List Heard → ℕ → Option ℕ
round_signed (Some own) heard order = if order == own then Some 1 else None
round_signed None heard order = option_map (λ x. round_of x + 1) (first_of order heard)

-- the leaf belongs to an order that the general signs in this round
pub record IsSignedWith (h : RunHeader) (own : Option ℕ) (heard : List Heard) (round leaf : ℕ) : Type 0 where
  pub order : ℕ
  pub known : order < h.network.orders
  pub leaf_is : leaf ≡ leaf_of_order h order
  pub signed : round_signed own heard order ≡ Some round

-- the chain that was heard is signed with trees of the run's height, and this general is not among its
-- signers
pub record IsOthers (h : RunHeader) (me : ℕ) (x : Heard) : Type 0 where
  pub chain : IsSignedChain (height_of h) x.chain
  pub outside : Contains (signed_path x.chain.signers) me → ⊥

-- each chain that was heard is signed by others in this sense
abbrev pub AreOthers : RunHeader → ℕ → List Heard → Type 0
AreOthers h me heard = (x : Heard) → Contains heard x → IsOthers h me x
