-- Theorem 4 for any choice of an order from a set of orders (`choice` of section 4 of the paper of 1982).
use Rattle.std.specs.Prelude.{ℕ, ◌≡◌, List, [], ◌∷◌}
use Rattle.gen_net.specs.Network.{Network, choose}
use Rattle.gen_scenario.specs.Theorem.{Case, IsLoyalLieutenant, HasLoyalCommander, AreAccepted}

-- the two laws of a choice: from a set of one order it takes that order, from the empty set RETREAT
pub record IsChoice (choice : List ℕ → ℕ) : Type 0 where
  pub of_one : (v : ℕ) → choice (v ∷ []) ≡ v
  pub of_none : choice [] ≡ 0

-- every choice that a network can name obeys the two laws
abbrev pub EachIsChoice : Type 0
EachIsChoice = (net : Network) → IsChoice (choose net)

-- with this choice any two lieutenants of the rest choose the same order from the sets that they accepted,
-- and each chooses the commander's order if the commander is of the rest
pub record ChosenAlike (here : Case) (choice : List ℕ → ℕ) : Type 0 where
  pub alike : (g h : ℕ) (orders others : List ℕ) → IsLoyalLieutenant here g → IsLoyalLieutenant here h
      → AreAccepted here g orders → AreAccepted here h others → choice orders ≡ choice others
  pub obeyed : (own g : ℕ) (orders : List ℕ) → HasLoyalCommander here own → IsLoyalLieutenant here g
      → AreAccepted here g orders → choice orders ≡ own

-- this holds of every choice that obeys the two laws
abbrev pub AnyChoice : Case → Type 0
AnyChoice here = (choice : List ℕ → ℕ) → IsChoice choice → ChosenAlike here choice
