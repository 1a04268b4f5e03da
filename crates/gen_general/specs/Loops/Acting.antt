-- What a general keeps from round to round.
use Rattle.std.specs.Prelude.{ℕ, ◌≡◌, ◌≤◌, ◌<◌, List, Option, Some, None, Contains}
use Rattle.gen_tree.specs.Rings.{Ring}
use Rattle.gen_net.specs.Header.{height_of}
use Rattle.gen_chain.specs.Chain.{Chain}
use Rattle.gen_chain.specs.Leaves.{leaves_per_run, leaf_of_order}
use Rattle.gen_scenario.specs.declared.heard.Heard.{Heard}
use Rattle.gen_script.specs.declared.lines.ScriptLine.{ScriptLine}
use Rattle.gen_general.specs.declared.scripted.Planned.{Planned}
use Rattle.gen_scenario.specs.Frames.{signed_in}
use Rattle.gen_general.specs.Planned.{planned_in}
use Rattle.gen_scenario.specs.SignerTrees.{keys_with}
use Rattle.gen_general.specs.Following.{round_signed, IsSignedWith}
use Rattle.gen_scenario.specs.Part.{Part, own_keys}
use Rattle.gen_general.specs.Participant.{IsSpentOn}

-- the ring of a general without a script, and the chains that it signed in this round
pub record Follower : Type 0 where
  pub ring : Ring
  pub signed : List Chain

-- the general signed this order in this round or an earlier one
pub record IsSpent (own : Option ℕ) (heard : List Heard) (round order : ℕ) : Type 0 where
  pub at : ℕ
  pub signed : round_signed own heard order ≡ Some at
  pub past : at ≤ round

-- What a general without a script keeps. The chains of this round are those that it had to sign. Each leaf of
-- the run that was taken belongs to an order that it signed by now.
pub record IsHand (k : Part) (heard before : List Heard) (round : ℕ) (hand : Follower) : Type 0 where
  pub unscripted : k.script ≡ None
  pub height : hand.ring.height ≡ height_of k.header
  pub signed : hand.signed ≡ signed_in (own_keys k.header hand.ring.seed) k.me k.own before round
  pub spent : (n : ℕ) → n < leaves_per_run → Contains hand.ring.taken (leaf_of_order k.header n)
      → IsSpent k.own heard round n

-- the leaves of the orders that the general has to sign in this round are not taken
pub record IsFree (k : Part) (heard : List Heard) (round : ℕ) (hand : Follower) : Type 0 where
  pub height : hand.ring.height ≡ height_of k.header
  pub leaf : (leaf : ℕ) → IsSignedWith k.header k.own heard round leaf → Contains hand.ring.taken leaf → ⊥

-- the general signed what it had to sign in this round
pub record HasSignedIt (k : Part) (heard : List Heard) (round : ℕ) (old new : Follower) : Type 0 where
  pub signed : new.signed ≡ signed_in (own_keys k.header old.ring.seed) k.me k.own heard round
  pub ring : IsSpentOn k.header k.own heard round old.ring new.ring

-- the general has a script
abbrev pub HasScript : Part → Type 0
HasScript k = (lines : List ScriptLine) × (k.script ≡ Some lines)

-- this is what the script has its general send in a round
abbrev pub HasPlanned : Part → List Heard → ℕ → List Planned → Type 0
HasPlanned k heard round planned =
    (lines : List ScriptLine) → k.script ≡ Some lines
    → planned ≡ planned_in (keys_with k.header k.trees) k.me lines heard round
