-- The state of a general in a run.
use Rattle.std.specs.Prelude.{ℕ, ◌≡◌, ◌<◌, ◌+◌, ◌↔◌, ◌⊎◌, List, [], ◌++◌, map, Option, Some, None, Contains}
use Rattle.gen_tree.specs.Rings.{Ring}
use Rattle.gen_net.specs.Header.{RunHeader, height_of}
use Rattle.gen_chain.specs.Leaves.{leaves_per_run, leaf_of_order}
use Rattle.gen_scenario.specs.declared.heard.Heard.{Heard}
use Rattle.gen_scenario.specs.Signing.{Keys}
use Rattle.gen_general.specs.Following.{IsSignedWith}
use Rattle.gen_scenario.specs.Frames.{Sender, frame_of}
use Rattle.gen_scenario.specs.Counted.{counted_of}
use Rattle.gen_scenario.specs.SignedWorld.{delivery}
use Rattle.gen_scenario.specs.SignerTrees.{keys_with}
use Rattle.gen_scenario.specs.Part.{Part, own_keys}

-- What the general knows of its own; its ring, if it has no script; and all chains that it heard so far. Also
-- the chains of these that it heard before its current round began, and the number of that round, 0 before
-- the first.
pub record Participant : Type 0 where
  pub known : Part
  pub ring : Option Ring
  pub heard : List Heard
  pub before : List Heard
  pub round : ℕ

-- the state before the first round
abbrev pub at_start : Part → Option Ring → Participant
at_start known ring = record { known = known; ring = ring; heard = []; before = []; round = 0 }

-- the keys with which the general signs: its own, made of the ring's seed, or, with a script, those of the
-- trees that it has
abbrev pub keys_at : Part → Option Ring → Keys
keys_at k None = keys_with k.header k.trees
keys_at k (Some ring) = own_keys k.header ring.seed

abbrev pub sender_at : Participant → Sender
sender_at p =
    record { keys = keys_at p.known p.ring; me = p.known.me; own = p.known.own; script = p.known.script }

-- the frame of the current round that the general sends a neighbour
abbrev pub sends : Participant → ℕ → List (List ℕ)
sends p to = frame_of (sender_at p) p.before p.round to

-- what the general hears of a frame of the current round: the chains of it that count
abbrev pub hears : Participant → ℕ → List (List ℕ) → List Heard
hears p from frame =
    map (λ c. record { from = from; chain = c })
    (counted_of p.known.header (delivery p.round from p.known.me) frame)

-- the state after the general heard that frame
abbrev pub with_frame : Participant → ℕ → List (List ℕ) → Participant
with_frame p from frame = record {
  known = p.known;
  ring = p.ring;
  heard = p.heard ++ hears p from frame;
  before = p.before;
  round = p.round;
}

-- the ring is of the run's height, and no leaf of the run was taken from it
pub record IsUnused (h : RunHeader) (ring : Ring) : Type 0 where
  pub height : ring.height ≡ height_of h
  pub free : (n : ℕ) → n < leaves_per_run → Contains ring.taken (leaf_of_order h n) → ⊥

-- the general has either a script or such a ring
abbrev pub MayStart : Part → Option Ring → Type 0
MayStart k (Some ring) = (k.script ≡ None) × IsUnused k.header ring
MayStart k None = k.script ≡ None → ⊥

-- the leaves that were taken from a ring in a round are those of the orders that the general signed in it
pub record IsSpentOn (h : RunHeader) (own : Option ℕ) (heard : List Heard) (round : ℕ) (old new : Ring) :
    Type 0 where
  pub seed : new.seed ≡ old.seed
  pub height : new.height ≡ old.height
  pub taken : (leaf : ℕ)
      → Contains new.taken leaf ↔ (Contains old.taken leaf ⊎ IsSignedWith h own heard round leaf)

abbrev pub RingAfter : Participant → Option Ring → Option Ring → Type 0
RingAfter p (Some old) (Some new) = IsSpentOn p.known.header p.known.own p.heard (p.round + 1) old new
RingAfter p None None = Unit {0}
RingAfter p _ _ = ⊥

-- the general has begun the next round
pub record HasBegun (old new : Participant) : Type 0 where
  pub known : new.known ≡ old.known
  pub ring : RingAfter old old.ring new.ring
  pub heard : new.heard ≡ old.heard
  pub before : new.before ≡ old.heard
  pub round : new.round ≡ old.round + 1
