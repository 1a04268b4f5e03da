-- What a lieutenant relays, order by order.
use Rattle.std.specs.Prelude.{ℕ, ◌≡◌, ◌≤◌, ◌<◌, zero, suc, ◌+◌, ◌==◌, if◌then◌else◌, List, Option, Some, None}
use Rattle.std.specs.List.{range_with_len, flat_map}
use Rattle.gen_types.specs.declared.heights.TreeHeight.{TreeHeight}
use Rattle.gen_net.specs.Header.{RunHeader, height_of}
use Rattle.gen_chain.specs.Chain.{Chain}
use Rattle.gen_scenario.specs.declared.heard.Heard.{Heard}
use Rattle.gen_scenario.specs.Heard.{round_of, first_of}
use Rattle.gen_scenario.specs.Signing.{Keys}
use Rattle.gen_chain.specs.Leaves.{leaf_of_order}
use Rattle.gen_scenario.specs.Frames.{relayed}
use Rattle.gen_general.specs.Following.{round_signed}

-- room for signing a chain: the greatest number of signers, and the height of the trees by which they sign
pub record SignRoom : Type 0 where
  pub signers : ℕ
  pub height : TreeHeight

-- the room is large enough for a chain that is signed in this round
pub record IsRoom (h : RunHeader) (round : ℕ) (room : SignRoom) : Type 0 where
  pub signers : round ≤ room.signers
  pub height : room.height ≡ height_of h

-- the first chain that was heard of an order, if it was heard in the round before this one
abbrev pub due_of : ℕ → Option Heard → Option Heard
due_of round None = None
due_of round (Some x) = if round_of x + 1 == round then Some x else None

abbrev pub one_or_none : Option Heard → ℕ
one_or_none None = 0
one_or_none (Some x) = 1

-- the number of orders below a bound that have to be signed in this round
unfoldable pub due_count : ℕ → List Heard → ℕ → ℕ
due_count round heard zero = 0
due_count round heard (suc n) = due_count round heard n + one_or_none (due_of round (first_of n heard))

-- the chains that are signed in this round for the orders below n
unfoldable pub relayed_to : Keys → ℕ → List Heard → ℕ → ℕ → List Chain
relayed_to k me heard round n =
    flat_map (λ order. relayed k me round (first_of order heard)) (range_with_len 0 n)

-- the leaf belongs to an order below n that is signed in this round
pub record IsTakenTo (h : RunHeader) (heard : List Heard) (round n leaf : ℕ) : Type 0 where
  pub order : ℕ
  pub below : order < n
  pub leaf_is : leaf ≡ leaf_of_order h order
  pub signed : round_signed None heard order ≡ Some round
