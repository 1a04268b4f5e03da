-- Chains: an order and the generals that signed it, one after another (v:0:j1:..:jk of section 4 of the paper
-- of 1982).
use Rattle.std.specs.Prelude.{ℕ, ◌≢◌, ◌<◌, List, [], ◌∷◌, All, AllPairs}
use Rattle.gen_types.specs.Ends.{BeginsWith}
use Rattle.gen_net.specs.Network.{Network}

-- an order below q, and a list of distinct generals below n that begins with the commander
pub record IsChain (net : Network) (order : ℕ) (path : List ℕ) : Type 0 where
  pub order_known : order < net.orders
  pub generals_known : All (λ g. g < net.generals) path
  pub distinct : AllPairs (λ g h. g ≢ h) path
  pub from_commander : BeginsWith path (0 ∷ [])
