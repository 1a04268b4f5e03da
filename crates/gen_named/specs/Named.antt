-- Runs about values of any number. A general has names of its own for at most two values: the orders 1 and 2.
-- Under its names it follows the algorithm of versions 1 and 2 over three orders, of which order 0 is
-- RETREAT.
use Rattle.std.specs.Prelude.{ℕ, ◌≡◌, ◌≢◌, ◌<◌, ◌≤◌, ◌↔◌, ◌⊎◌, List, Contains, Option, Some}
use Rattle.gen_net.specs.Network.{Network, IsLoyal}
use Rattle.gen_net.specs.declared.message.Message.{Message}
use Rattle.gen_net.specs.Run.{Run, IsRun, OrderArrives}
use Rattle.gen_net.specs.Follows.{Conduct, Commands, Relays, Follows, LieutenantDecides}
use Rattle.gen_net.specs.Signed.{IsDerivable}

-- the network over values below a bound in place of orders
abbrev pub over : ℕ → Network → Network
over bound net = record {
  generals = net.generals;
  edges = net.edges;
  traitors = net.traitors;
  diameter = net.diameter;
  orders = bound;
  choice = net.choice;
}

-- the value that an order stands for, if it stands for one
abbrev pub Names : Type 0
Names = ℕ → Option ℕ

-- the order stands for a value; the value has an order that stands for it
abbrev pub IsName : Names → ℕ → Type 0
IsName names i = (v : ℕ) × (names i ≡ Some v)

abbrev pub HasName : Names → ℕ → Type 0
HasName names v = (i : ℕ) × (names i ≡ Some v)

-- orders 1 and 2 alone are names, and no value has two of them
pub record AreNames (bound : ℕ) (names : Names) : Type 0 where
  pub two : (i v : ℕ) → names i ≡ Some v → (i ≡ 1) ⊎ (i ≡ 2)
  pub apart : (i j v : ℕ) → names i ≡ Some v → names j ≡ Some v → i ≡ j
  pub below : (i v : ℕ) → names i ≡ Some v → v < bound

-- the message with another order or value
abbrev pub about : ℕ → Message → Message
about v m = record { from = m.from; to = m.to; order = v; path = m.path }

-- What g sends and what comes to it, under its names: a message of an order is one of the value that the
-- order stands for. A value that has no name is left out of what comes; g sends none.
pub record IsView (names : Names) (run : Run) (g : ℕ) (mine : Run) : Type 0 where
  pub sent : (m : Message) (i v : ℕ) → m.from ≡ g → names i ≡ Some v
      → Contains mine (about i m) ↔ Contains run (about v m)
  pub arrived : (m : Message) (i v : ℕ) → m.to ≡ g → names i ≡ Some v
      → Contains mine (about i m) ↔ Contains run (about v m)
  pub orders_named : (m : Message) → Contains mine m → (m.from ≡ g) ⊎ (m.to ≡ g) → IsName names m.order
  pub sends_named : (m : Message) → Contains run m → m.from ≡ g → HasName names m.order

-- messages of both names came to g by round l
abbrev pub IsFull : Run → ℕ → ℕ → Type 0
IsFull mine g l =
    (i : ℕ) × (j : ℕ) × (k : ℕ) × (n : ℕ) × (i ≢ j) × (k ≤ l) × (n ≤ l)
    × OrderArrives mine g k i × OrderArrives mine g n j

-- a commander's own order is a name
abbrev pub OwnIsNamed : Names → Conduct → Type 0
OwnIsNamed names (Commands own) = IsName names own
OwnIsNamed names (Relays pick) = Unit {0}

-- what a general has of its own: its names, its messages under them, and its conduct
pub record Part : Type 0 where
  pub names : Names
  pub mine : Run
  pub conduct : Conduct

-- g follows under its names, and a value that comes has a name, unless both came by then
pub record FollowsNamed (bound : ℕ) (net : Network) (run : Run) (g : ℕ) (part : Part) : Type 0 where
  pub names : AreNames bound part.names
  pub own : OwnIsNamed part.names part.conduct
  pub view : IsView part.names run g part.mine
  pub run_of_net : IsRun net part.mine
  pub follows : Follows net part.mine g part.conduct
  pub room : (l v : ℕ) → OrderArrives run g l v → HasName part.names v ⊎ IsFull part.mine g l

-- a lieutenant decides the value that the order stands for on which it decides under its names; None is
-- RETREAT
abbrev pub DecidesValue : Network → ℕ → Part → Option ℕ → Type 0
DecidesValue net g part decision =
    (orders : List ℕ) × (order : ℕ) × LieutenantDecides net part.mine g orders order
    × (decision ≡ part.names order)

-- A run of values for a set of faulty generals: each of the rest follows under its names, and every message
-- from a faulty general is derivable.
pub record IsNamedRun (bound : ℕ) (net : Network) (faulty : List ℕ) (run : Run) (parts : ℕ → Part)
    : Type 0 where
  pub run_of_net : IsRun (over bound net) run
  pub follows : (g : ℕ) → IsLoyal net faulty g → FollowsNamed bound net run g (parts g)
  pub derivable : (message : Message) → Contains run message → Contains faulty message.from
      → IsDerivable net faulty run message

-- what comes to g, under its names: each message of a named value, and no value is left out before both names
-- came
pub record Hears (names : Names) (run : Run) (g : ℕ) (mine : Run) : Type 0 where
  pub arrived : (m : Message) (i v : ℕ) → m.to ≡ g → names i ≡ Some v
      → Contains mine (about i m) ↔ Contains run (about v m)
  pub orders_named : (m : Message) → Contains mine m → IsName names m.order
  pub room : (l v : ℕ) → OrderArrives run g l v → HasName names v ⊎ IsFull mine g l

-- whatever comes, each general can name values so
abbrev pub EachCanName : Type 0
EachCanName =
    (bound : ℕ) (net : Network) (run : Run) → IsRun (over bound net) run → (g : ℕ)
    → (names : Names) × (mine : Run) × AreNames bound names × Hears names run g mine
