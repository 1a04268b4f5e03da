-- The one run of a plain scenario: every general follows the algorithm. If several messages of a new order
-- arrive in one round, the one from the least sender is picked.
use Rattle.std.specs.Prelude.{ℕ, ◌≡◌, ◌≢◌, ◌+◌, ◌<◌, ◌↔◌, List, [], ◌∷◌, ◌++◌, map, Contains, All}
use Rattle.std.specs.List.{range_with_len}
use Rattle.gen_net.specs.Network.{Network, rounds, AreNeighbours}
use Rattle.gen_net.specs.declared.message.Message.{Message}
use Rattle.gen_net.specs.Run.{Run, IsSent, IsRun, Adds}
use Rattle.gen_net.specs.Follows.{CommanderFollows, LieutenantDecides}
use Rattle.gen_core.specs.Seeing.{IsFromLeast}
use Rattle.gen_scenario.specs.declared.scenario.Decision.{Decision}

-- The message is what g relays in round l + 1 of an order that it added in round l. The path is that of the
-- least sender's message, lengthened by g, and the receiver is a neighbour that is not in the path.
pub record IsRelay (net : Network) (run : Run) (g l : ℕ) (message : Message) : Type 0 where
  pub picked : List ℕ
  pub added : Adds run g l message.order
  pub least : IsFromLeast run g l message.order picked
  pub longer : message.path ≡ picked ++ g ∷ []
  pub neighbour : AreNeighbours net g message.to
  pub outside : Contains message.path message.to → ⊥

-- g sends nothing in round 1, and in each later round it sends what it relays and nothing else
pub record RelaysLeast (net : Network) (run : Run) (g : ℕ) : Type 0 where
  pub silent : (message : Message) → IsSent run 1 message → message.from ≢ g
  pub sends : (l : ℕ) (message : Message) → 0 < l → l < rounds net → message.from ≡ g
      → IsSent run (l + 1) message ↔ IsRelay net run g l message

-- the run is that of the plain scenario of this network and order
pub record IsWorld (net : Network) (order : ℕ) (run : Run) : Type 0 where
  pub run_of_net : IsRun net run
  pub commander : CommanderFollows net run order
  pub lieutenants : (g : ℕ) → g < net.generals → g ≢ 0 → RelaysLeast net run g

-- two runs of one plain scenario have the same messages
abbrev pub OneWorld : Type 0
OneWorld =
    (net : Network) (order : ℕ) (run other : Run) → IsWorld net order run → IsWorld net order other
    → (message : Message) → Contains run message ↔ Contains other message

-- the decision of a general in the run: the commander decides its own order alone, a lieutenant by the orders
-- that it accepted
pub record IsDecision (net : Network) (order : ℕ) (run : Run) (decision : Decision) : Type 0 where
  pub commander : decision.general ≡ 0
      → (decision.orders ≡ order ∷ []) × (decision.order ≡ order)
  pub lieutenant : decision.general ≢ 0
      → LieutenantDecides net run decision.general decision.orders decision.order

-- the decisions of all generals in the run of the plain scenario, in ascending order of generals
pub record IsOutcome (net : Network) (order : ℕ) (decisions : List Decision) : Type 0 where
  pub run : Run
  pub world : IsWorld net order run
  pub generals : map (λ decision. decision.general) decisions ≡ range_with_len 0 net.generals
  pub each : All (IsDecision net order run) decisions
