-- A general that is driven as the scenario says has the state that the scenario says, whatever code drives
-- it.
use Rattle.std.specs.Prelude.{ℕ, ◌≡◌, ◌+◌, List, Option, Some, None}
use Rattle.gen_tree.specs.Rings.{Ring, seed_of}
use Rattle.gen_net.specs.Network.{rounds}
use Rattle.gen_script.specs.declared.lines.ScriptLine.{ScriptLine}
use Rattle.gen_scenario.specs.Scenario.{Scenario, IsScenario, header_of, script_of}
use Rattle.gen_scenario.specs.Deciding.{decided_by, decision_of}
use Rattle.gen_scenario.specs.Frames.{frame_of}
use Rattle.gen_scenario.specs.Part.{part_of}
use Rattle.gen_scenario.specs.PartLaws.{ActAlike}
use Rattle.gen_general.specs.Participant.{Participant, HasBegun, at_start, sender_at, sends, hears, with_frame}
use Rattle.gen_scenario.specs.SignedWorld.{sender_of, own_order, heard_by, heard_of}

-- the participant is this general of the scenario: it knows the scenario's header, the general's number and
-- order, and acts as the scenario says
pub record IsGeneralOf (s : Scenario) (g : ℕ) (p : Participant) : Type 0 where
  pub header : p.known.header ≡ header_of s
  pub me : p.known.me ≡ g
  pub own : p.known.own ≡ own_order s g
  pub alike : ActAlike (sender_at p) (sender_of s g)

-- the ring has the general's own seed, or there is none because the general has a script
abbrev pub IsOwnRing : Scenario → ℕ → Option (List ScriptLine) → Option Ring → Type 0
IsOwnRing s g None (Some ring) = ring.seed ≡ seed_of s.master g
IsOwnRing s g None None = ⊥
IsOwnRing s g (Some lines) (Some ring) = ⊥
IsOwnRing s g (Some lines) None = Unit {0}

-- with the knowledge and the ring of a general, a participant is that general before the first round
abbrev pub StartsAsHe : Type 0
StartsAsHe =
    (s : Scenario) (g : ℕ) (ring : Option Ring) → IsScenario s → IsOwnRing s g (script_of s.scripts g) ring
    → IsGeneralOf s g (at_start (part_of s g) ring)

-- the participant still is that general after it begins a round, and after it hears a frame
abbrev pub BeginsAsHe : Type 0
BeginsAsHe = (s : Scenario) (g : ℕ) (p q : Participant) → IsGeneralOf s g p → HasBegun p q → IsGeneralOf s g q

abbrev pub HearsAsHe : Type 0
HearsAsHe =
    (s : Scenario) (g from : ℕ) (p : Participant) (frame : List (List ℕ)) → IsGeneralOf s g p
    → IsGeneralOf s g (with_frame p from frame)

-- the general is in round k + 1, and before that round it had heard what the scenario says
pub record IsIn (s : Scenario) (k g : ℕ) (p : Participant) : Type 0 where
  pub part : IsGeneralOf s g p
  pub before : p.before ≡ heard_by s k g
  pub round : p.round ≡ k + 1

-- then it sends the scenario's frames, and from a neighbour's frame it hears what the scenario says
abbrev pub SendsFrames : Type 0
SendsFrames =
    (s : Scenario) (k g to : ℕ) (p : Participant) → IsIn s k g p
    → sends p to ≡ frame_of (sender_of s g) (heard_by s k g) (k + 1) to

abbrev pub HearsFrames : Type 0
HearsFrames =
    (s : Scenario) (k g from : ℕ) (p : Participant) → IsIn s k g p
    → hears p from (frame_of (sender_of s from) (heard_by s k from) (k + 1) g)
    ≡ heard_of s (heard_by s k) (k + 1) g from

-- after the last round it decides what the scenario says
abbrev pub DecidesAsHe : Type 0
DecidesAsHe =
    (s : Scenario) (g : ℕ) (p : Participant) → IsGeneralOf s g p → p.heard ≡ heard_by s (rounds s.net) g
    → decided_by p.known.header.network p.known.me p.known.own p.heard ≡ decision_of s g
