-- Theorem 4 of section 5 of the paper of 1982. The signed messages of m + d rounds bring all of the rest to
-- the same set of orders, and so to the same decision. This holds if there are at most m traitors and the
-- rest has a diameter of at most d.
use Rattle.std.specs.Prelude.{ℕ, ◌≡◌, ◌≢◌, ◌≤◌, ◌↔◌, List, length}
use Rattle.gen_types.specs.Ascending.{IsListOf}
use Rattle.gen_net.specs.Network.{Network, IsLoyal}
use Rattle.gen_net.specs.Walks.{HasDiameter}
use Rattle.gen_net.specs.Run.{Run, IsRun, Accepts}
use Rattle.gen_net.specs.Follows.{Conduct, Commands, LieutenantDecides}
use Rattle.gen_net.specs.Signed.{IsSignedRun}

-- a network, its faulty generals, a run of it, and the conduct of each general of the rest
pub record Case : Type 0 where
  pub net : Network
  pub faulty : List ℕ
  pub run : Run
  pub conducts : ℕ → Conduct

-- What the theorem asks for: a signed run for these faulty generals, at most m of them, and any two generals
-- of the rest joined inside the rest by at most d edges.
pub record Premises (here : Case) : Type 0 where
  pub signed : IsSignedRun here.net here.faulty here.run here.conducts
  pub few : length here.faulty ≤ here.net.traitors
  pub diameter : HasDiameter here.net here.faulty

-- g is a lieutenant of the rest
abbrev pub IsLoyalLieutenant : Case → ℕ → Type 0
IsLoyalLieutenant here g = IsLoyal here.net here.faulty g × (g ≢ 0)

-- the commander is of the rest, and has this order
abbrev pub HasLoyalCommander : Case → ℕ → Type 0
HasLoyalCommander here own = IsLoyal here.net here.faulty 0 × (here.conducts 0 ≡ Commands own)

-- g accepts the order
abbrev pub AcceptsHere : Case → ℕ → ℕ → Type 0
AcceptsHere here g v = Accepts here.net here.run g v

-- these are all orders that g accepts, in ascending order
abbrev pub AreAccepted : Case → ℕ → List ℕ → Type 0
AreAccepted here g orders = IsListOf orders (AcceptsHere here g)

-- g decides the order
abbrev pub DecidesHere : Case → ℕ → ℕ → Type 0
DecidesHere here g order = (orders : List ℕ) × LieutenantDecides here.net here.run g orders order

-- any two lieutenants of the rest accept the same orders
abbrev pub Agreement : Case → Type 0
Agreement here =
    (g h v : ℕ) → IsLoyalLieutenant here g → IsLoyalLieutenant here h
    → AcceptsHere here g v ↔ AcceptsHere here h v

-- if the commander is of the rest, a lieutenant of the rest accepts the commander's order and no other
abbrev pub Validity : Case → Type 0
Validity here =
    (own g v : ℕ) → HasLoyalCommander here own → IsLoyalLieutenant here g
    → AcceptsHere here g v ↔ (v ≡ own)

-- any two lieutenants of the rest decide the same order (IC1)
abbrev pub DecideAlike : Case → Type 0
DecideAlike here =
    (g h order other : ℕ) → IsLoyalLieutenant here g → IsLoyalLieutenant here h
    → DecidesHere here g order → DecidesHere here h other → order ≡ other

-- if the commander is of the rest, a lieutenant of the rest decides the commander's order (IC2)
abbrev pub ObeyCommander : Case → Type 0
ObeyCommander here =
    (own g order : ℕ) → HasLoyalCommander here own → IsLoyalLieutenant here g
    → DecidesHere here g order → order ≡ own

-- in every run a lieutenant has a decision
abbrev pub EachDecides : Type 0
EachDecides =
    (net : Network) (run : Run) → IsRun net run → (g : ℕ) → g ≢ 0
    → (orders : List ℕ) × (order : ℕ) × LieutenantDecides net run g orders order
