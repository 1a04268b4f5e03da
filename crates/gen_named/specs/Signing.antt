-- What a follower of a run of values signs: at most one statement of each of its two orders, of two values,
-- and as the commander one alone.
use Rattle.std.specs.Prelude.{ℕ, ◌≡◌, List, Contains, Some}
use Rattle.gen_net.specs.Network.{Network}
use Rattle.gen_net.specs.Run.{Run}
use Rattle.gen_net.specs.Log.{LogEntry, Signed, Keeps}
use Rattle.gen_named.specs.Named.{Names, IsName, Part, FollowsNamed}

-- a log of g has a SIGN of this order with this path
abbrev pub HasSigned : List LogEntry → ℕ → List ℕ → Type 0
HasSigned log i path = Contains log (Signed i path)

-- Each SIGN is of an order that stands for a value, and all of one order have one path. Those of two orders
-- are of two values. The commander has one order.
pub record SignsTwo (names : Names) (g : ℕ) (log : List LogEntry) : Type 0 where
  pub named : (i : ℕ) (p : List ℕ) → HasSigned log i p → IsName names i
  pub one_path : (i : ℕ) (p q : List ℕ) → HasSigned log i p → HasSigned log i q → p ≡ q
  pub two_values : (i j v : ℕ) (p q : List ℕ) → HasSigned log i p → HasSigned log j q
      → names i ≡ Some v → names j ≡ Some v → i ≡ j
  pub commander : (i j : ℕ) (p q : List ℕ) → g ≡ 0 → HasSigned log i p → HasSigned log j q → i ≡ j

-- so signs each general that follows under its names, by the log that it keeps
abbrev pub FollowersSignTwo : Type 0
FollowersSignTwo =
    (bound : ℕ) (net : Network) (run : Run) (g : ℕ) (part : Part) (log : List LogEntry)
    → FollowsNamed bound net run g part → Keeps net part.mine g part.conduct log
    → SignsTwo part.names g log
