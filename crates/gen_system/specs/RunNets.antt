-- The network of a run of a system.
use Rattle.std.specs.Prelude.{ℕ, ◌≡◌, ◌<◌, ◌↔◌, List, map}
use Rattle.gen_net.specs.Edges.{edges_of}
use Rattle.gen_net.specs.Network.{Network, AreNeighbours}
use Rattle.gen_system.specs.declared.proposers.Proposer.{Proposer}
use Rattle.gen_system.specs.declared.proposers.Proposer.TheVariants.{First, Turns}
use Rattle.gen_system.specs.Runs.{general_by, node_of}
use Rattle.gen_system.specs.Systems.{RunSystem}

-- the edges between nodes as edges between the generals of a run with turns
abbrev pub turned : ℕ → ℕ → List (ℕ × ℕ) → List (ℕ × ℕ)
turned n run edges = map (λ e. (general_by Turns n run e.0, general_by Turns n run e.1)) edges

-- the network of a run: that of the system, whose nodes have become generals
abbrev pub network_by : Proposer → Network → ℕ → Network
network_by First net run = net
network_by Turns net run =
    record net { edges = edges_of net.generals (turned net.generals run net.edges) }

abbrev pub network_of_run : RunSystem → ℕ → Network
network_of_run s run = network_by s.proposer s.header.network run

-- The network has an edge between two generals of the run if and only if the system has the edge between
-- their nodes. All else is the system's.
pub record IsNetOfRun (s : RunSystem) (run : ℕ) (net : Network) : Type 0 where
  pub generals : net.generals ≡ s.header.network.generals
  pub traitors : net.traitors ≡ s.header.network.traitors
  pub diameter : net.diameter ≡ s.header.network.diameter
  pub orders : net.orders ≡ s.header.network.orders
  pub choice : net.choice ≡ s.header.network.choice
  pub edges : (a b : ℕ) → a < net.generals → b < net.generals
      → AreNeighbours net a b
      ↔ AreNeighbours s.header.network (node_of s run a) (node_of s run b)
