-- How long the logs of a run can be, and how many bytes a run of correct generals sends.
use Rattle.std.specs.Prelude.{ℕ, zero, suc, ◌≡◌, ◌+◌, ◌-◌, ◌*◌, ◌/◌, ◌<◌, ◌≤◌, ◌⊎◌, List, [], length}
use Rattle.gen_types.specs.Ascending.{IsListOf}
use Rattle.gen_types.specs.declared.heights.TreeHeight.{TreeHeight}
use Rattle.gen_chain.specs.Chain.{signer_length}
use Rattle.gen_net.specs.Header.{RunHeader, height_of}
use Rattle.gen_net.specs.Network.{Network, AreNeighbours, rounds}
use Rattle.gen_net.specs.Walks.{IsWalk}
use Rattle.gen_plan.specs.Longest.{empty_frame, parcel_most, frame_most}
use Rattle.gen_plan.specs.declared.sizes.RunSizes.{RunSizes}

-- a general has this many neighbours
abbrev pub HasNeighbours : Network → ℕ → ℕ → Type 0
HasNeighbours net g count = (near : List ℕ) × IsListOf near (AreNeighbours net g) × (length near ≡ count)

-- the most neighbours that a general of the network has
pub record HasMostNeighbours (net : Network) (most : ℕ) : Type 0 where
  pub reached : (g : ℕ) × (g < net.generals) × HasNeighbours net g most
  pub none_more : (g count : ℕ) → g < net.generals → HasNeighbours net g count → count ≤ most

-- the most bytes of the entries of one order that came from one neighbour: a chain of each length up to
-- the rounds
unfoldable pub order_most : TreeHeight → ℕ → ℕ
order_most height r = 4 + 5 * r + signer_length height * (r * (r + 1) / 2)

-- the most bytes of the log of a general with this many neighbours
unfoldable pub log_most : TreeHeight → Network → ℕ → ℕ
log_most height net neighbours =
    46 + signer_length height + net.orders * (2 + rounds net + signer_length height)
    + neighbours * net.orders * order_most height (rounds net)

-- a general is this many edges away from general 0, where nobody is faulty
abbrev pub IsAway : Network → ℕ → ℕ → Type 0
IsAway net g edges = IsWalk net [] edges 0 g × ((fewer : ℕ) → fewer < edges → IsWalk net [] fewer 0 g → ⊥)

-- a general is at least this many edges away from general 0
abbrev pub IsFarAway : Network → ℕ → ℕ → Type 0
IsFarAway net many g = (edges : ℕ) → edges < many → IsWalk net [] edges 0 g → ⊥

-- to how many of its neighbours a general sends a message: general 0 to each, another not to that from
-- which it came
abbrev pub receivers : ℕ → ℕ → ℕ
receivers neighbours zero = neighbours
receivers neighbours (suc edges) = neighbours - 1

-- the bytes of the parcels of the one message that a general sends, so many edges away from general 0
unfoldable pub message_bytes : TreeHeight → ℕ → ℕ → ℕ
message_bytes height neighbours edges = receivers neighbours edges * parcel_most height (edges + 1)

-- A general sends its message in the round after it came, if there is such a round.
abbrev pub IsMessage : TreeHeight → Network → ℕ → ℕ → ℕ → Type 0
IsMessage height net g neighbours bytes =
    ((edges : ℕ) × (edges < rounds net) × IsAway net g edges
    × (bytes ≡ message_bytes height neighbours edges))
    ⊎ (IsFarAway net (rounds net) g × (bytes ≡ 0))

-- the bytes that a general sends: a frame to each neighbour in each round, and its message
pub record IsSentBy (height : TreeHeight) (net : Network) (g bytes : ℕ) : Type 0 where
  pub neighbours : ℕ
  pub counted : HasNeighbours net g neighbours
  pub message : ℕ
  pub sent : IsMessage height net g neighbours message
  pub total : bytes ≡ neighbours * rounds net * empty_frame + message

-- the bytes that the generals below a number send
abbrev pub IsSentBelow : TreeHeight → Network → ℕ → ℕ → Type 0
IsSentBelow height net zero bytes = bytes ≡ 0
IsSentBelow height net (suc g) bytes = (before last : ℕ) × IsSentBelow height net g before
    × IsSentBy height net g last × (bytes ≡ before + last)

-- the rounds, the longest frame, the longest log, and the bytes of a run in which each general is correct
pub record IsRunSizes (h : RunHeader) (sizes : RunSizes) : Type 0 where
  pub count : sizes.rounds ≡ rounds h.network
  pub frame : sizes.longest_frame ≡ frame_most h
  pub log : (most : ℕ) × HasMostNeighbours h.network most
      × (sizes.longest_log ≡ log_most (height_of h) h.network most)
  pub run : IsSentBelow (height_of h) h.network h.network.generals sizes.run_bytes
