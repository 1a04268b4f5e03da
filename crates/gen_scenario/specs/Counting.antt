-- Which chains of a frame count at its receiver. A frame is a list of parcels, and a parcel is a list of
-- bytes.
use Rattle.std.specs.Prelude.{ℕ, ◌≡◌, ◌≢◌, ◌≤◌, ◌↔◌, List, ◌∷◌, ◌++◌, length, Contains, AllPairs}
use Rattle.gen_types.specs.Ends.{EndsWith}
use Rattle.gen_net.specs.Header.{RunHeader, height_of}
use Rattle.gen_chain.specs.Chain.{Chain, IsSignedChain, signed_path, chain_spelling}
use Rattle.gen_chain.specs.Verifying.{ChainVerifies}
use Rattle.gen_scenario.specs.declared.delivery.Delivery.{Delivery}

-- The chain may count: it verifies, it has as many signers as the round's number, its sender is the last
-- signer, and its receiver is not among the signers.
pub record MayCount (h : RunHeader) (d : Delivery) (c : Chain) : Type 0 where
  pub verifies : ChainVerifies h c
  pub in_time : length (signed_path c.signers) ≡ d.round
  pub from_sender : EndsWith (signed_path c.signers) d.from
  pub outside : Contains (signed_path c.signers) d.to → ⊥

-- the parcel is exactly this chain, and the chain may count
pub record Carries (h : RunHeader) (d : Delivery) (parcel : List ℕ) (c : Chain) : Type 0 where
  pub spelled : parcel ≡ chain_spelling c
  pub is_chain : IsSignedChain (height_of h) c
  pub may_count : MayCount h d c

-- A chain of the frame counts: the frame has at most as many parcels as there are orders, and one of them
-- carries the chain. No parcel before that one carries a chain of the same order.
pub record Counts (h : RunHeader) (d : Delivery) (frame : List (List ℕ)) (c : Chain) : Type 0 where
  pub few : length frame ≤ h.network.orders
  pub before : List (List ℕ)
  pub parcel : List ℕ
  pub after : List (List ℕ)
  pub stands : frame ≡ before ++ parcel ∷ after
  pub carried : Carries h d parcel c
  pub first : (other : List ℕ) (k : Chain) → Contains before other → Carries h d other k
      → k.order ≢ c.order

-- the list has exactly the chains that count, at most one for each order
pub record AreCounted (h : RunHeader) (d : Delivery) (frame : List (List ℕ)) (chains : List Chain) :
    Type 0 where
  pub exactly : (c : Chain) → Contains chains c ↔ Counts h d frame c
  pub once : AllPairs (λ c k. c.order ≢ k.order) chains
