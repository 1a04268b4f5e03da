-- When the logs of the rest agree on an order.
use Rattle.std.specs.Prelude.{ℕ, ◌≡◌, ◌≤◌, List, length, Option, Some}
use Rattle.gen_net.specs.Network.{Network, IsLoyal}
use Rattle.gen_net.specs.Log.{Started, Decided}
use Rattle.gen_walks.specs.Walks.{IsRestOf, BoundsDiameter}
use Rattle.gen_match.specs.Matching.{Logs, Logged}
use Rattle.gen_audit.specs.Explained.{IsExplained}

-- the logs agree on an order: each of the rest decides it, none of the rest decides another, and a commander
-- of the rest started with it
pub record AgreesOn (net : Network) (faulty : List ℕ) (logs : Logs) (order : ℕ) : Type 0 where
  pub decided : (g : ℕ) → IsLoyal net faulty g → (orders : List ℕ) × Logged logs g (Decided orders order)
  pub alone : (g : ℕ) → IsLoyal net faulty g → (orders : List ℕ) (other : ℕ)
      → Logged logs g (Decided orders other)
      → other ≡ order
  pub obeyed : IsLoyal net faulty 0 → (own : Option ℕ) → Logged logs 0 (Started 0 own) → own ≡ Some order

-- at most m generals are faulty, the walks bound the diameter of the rest, and at least one general is of the
-- rest
pub record HasFewFaulty (net : Network) (faulty rest : List ℕ) (walks : List (List ℕ)) : Type 0 where
  pub few : length faulty ≤ net.traitors
  pub of_rest : IsRestOf net faulty rest
  pub bound : BoundsDiameter net rest walks
  pub somebody : (g : ℕ) × IsLoyal net faulty g

-- if few generals are faulty, the logs that a run explains agree on an order (Theorem 4 of section 5 of the
-- paper of 1982, stated for logs)
abbrev pub FewFaultyAgree : Type 0
FewFaultyAgree =
    (net : Network) (faulty rest : List ℕ) (walks : List (List ℕ)) (logs : Logs)
    → HasFewFaulty net faulty rest walks
    → IsExplained net faulty logs → (order : ℕ) × AgreesOn net faulty logs order
