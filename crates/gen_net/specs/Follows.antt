-- Which generals follow the algorithm, and what a lieutenant decides (SM(m), steps 1 to 3, section 4 of the
-- paper of 1982; the last round relays nothing).
use Rattle.std.specs.Prelude.{ℕ, ◌≡◌, ◌≢◌, ◌+◌, ◌<◌, ◌↔◌, List, [], ◌∷◌, ◌++◌, Contains}
use Rattle.gen_types.specs.Ascending.{IsListOf}
use Rattle.gen_net.specs.Network.{Network, rounds, choose, AreNeighbours}
use Rattle.gen_net.specs.declared.message.Message.{Message}
use Rattle.gen_net.specs.Run.{Run, IsSent, Adds, Accepts, IsPick}

-- The commander sends its order, signed by itself alone, to each neighbour in round 1, and nothing else.
pub record CommanderFollows (net : Network) (run : Run) (own : ℕ) : Type 0 where
  pub order_known : own < net.orders
  pub sends : (message : Message) → message.from ≡ 0
      → Contains run message
      ↔ (AreNeighbours net 0 message.to × (message.order ≡ own) × (message.path ≡ 0 ∷ []))

-- A message that g relays in round l + 1. Its order is one that g added in round l, its path is the picked
-- one lengthened by g, and its receiver is a neighbour outside that path.
pub record IsRelayed (net : Network) (run : Run) (g l : ℕ) (pick : ℕ → List ℕ) (message : Message)
    : Type 0 where
  pub added : Adds run g l message.order
  pub longer : message.path ≡ pick message.order ++ g ∷ []
  pub neighbour : AreNeighbours net g message.to
  pub outside : Contains message.path message.to → ⊥

-- A lieutenant sends nothing in round 1; in each later round it sends a message if and only if it relays it.
pub record LieutenantFollows (net : Network) (run : Run) (g : ℕ) (pick : ℕ → List ℕ) : Type 0 where
  pub picks : IsPick run g pick
  pub silent : (message : Message) → IsSent run 1 message → message.from ≢ g
  pub sends : (l : ℕ) (message : Message) → 0 < l → l < rounds net → message.from ≡ g
      → IsSent run (l + 1) message ↔ IsRelayed net run g l pick message

-- what a follower may choose: the commander its order, a lieutenant the path that it relays for each order
pub data Conduct : Type 0 where
  Commands : (own : ℕ) → Conduct
  Relays : (pick : ℕ → List ℕ) → Conduct

-- g follows the algorithm, with this conduct
abbrev pub Follows : Network → Run → ℕ → Conduct → Type 0
Follows net run g (Commands own) = (g ≡ 0) × CommanderFollows net run own
Follows net run g (Relays pick) = (g ≢ 0) × LieutenantFollows net run g pick

-- A lieutenant decides the choice of the set of the orders that it accepts.
pub record LieutenantDecides (net : Network) (run : Run) (g : ℕ) (orders : List ℕ) (order : ℕ)
    : Type 0 where
  pub set : IsListOf orders (Accepts net run g)
  pub chosen : order ≡ choose net orders
