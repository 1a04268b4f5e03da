-- What is known of the chains that count, and so of what a general heard.
use Rattle.std.specs.Prelude.{ℕ, ◌≡◌, ◌≤◌, ◌<◌, ◌+◌, List, Contains}
use Rattle.gen_types.specs.Ends.{EndsWith}
use Rattle.gen_net.specs.Header.{RunHeader, height_of}
use Rattle.gen_net.specs.Network.{AreNeighbours}
use Rattle.gen_chain.specs.Chain.{Chain, IsSignedChain, signed_path}
use Rattle.gen_chain.specs.Verifying.{ChainVerifies}
use Rattle.gen_scenario.specs.declared.delivery.Delivery.{Delivery}
use Rattle.gen_scenario.specs.declared.heard.Heard.{Heard}
use Rattle.gen_scenario.specs.Counted.{counted_of}
use Rattle.gen_scenario.specs.Counting.{MayCount}
use Rattle.gen_scenario.specs.Heard.{round_of}
use Rattle.gen_scenario.specs.Scenario.{Scenario, header_of}
use Rattle.gen_scenario.specs.SignedWorld.{heard_in, heard_by}

-- a chain that counts is signed with trees of the run's height, and may count
abbrev pub CountedAreChains : Type 0
CountedAreChains =
    (h : RunHeader) (d : Delivery) (frame : List (List ℕ)) (c : Chain) → Contains (counted_of h d frame) c
    → IsSignedChain (height_of h) c × MayCount h d c

-- a chain that a general heard in the first k rounds came from a neighbour that is its last signer; it
-- verifies, and the general that heard it is not among its signers
pub record IsHeardBy (s : Scenario) (k g : ℕ) (x : Heard) : Type 0 where
  pub near : AreNeighbours s.net g x.from
  pub is_chain : IsSignedChain (height_of (header_of s)) x.chain
  pub verifies : ChainVerifies (header_of s) x.chain
  pub some : 0 < round_of x
  pub in_time : round_of x ≤ k
  pub from_sender : EndsWith (signed_path x.chain.signers) x.from
  pub outside : Contains (signed_path x.chain.signers) g → ⊥

abbrev pub HeardIsKnown : Type 0
HeardIsKnown = (s : Scenario) (k g : ℕ) (x : Heard) → Contains (heard_by s k g) x → IsHeardBy s k g x

-- all of these chains were heard in this round
abbrev pub AreOfRound : ℕ → List Heard → Type 0
AreOfRound round heard = (x : Heard) → Contains heard x → round_of x ≡ round

abbrev pub HeardInRound : Type 0
HeardInRound = (s : Scenario) (k g : ℕ) → AreOfRound (k + 1) (heard_in s (heard_by s k) (k + 1) g)
