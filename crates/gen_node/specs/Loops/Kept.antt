-- What each node keeps, and one step of a round that begins or ends.
use Rattle.std.specs.Prelude.{ℕ, ◌≡◌, ◌≤◌, ◌+◌, List, [], ◌∷◌, map, Bool, true, false, IsSome, Some, None, if◌then◌else◌}
use Rattle.std.specs.List.{range_with_len, list_any}
use Rattle.gen_net.specs.Edges.{joins}
use Rattle.gen_net.specs.Header.{RunHeader}
use Rattle.gen_tree.specs.Rings.{Ring}
use Rattle.gen_log.specs.declared.entries.Entry.TheVariants.{Start}
use Rattle.gen_log.specs.Writing.{LogWriter, open_log}
use Rattle.gen_scenario.specs.Part.{Part}
use Rattle.gen_general.specs.Loops.Journals.{IsRecord}
use Rattle.gen_general.specs.Participant.{sends}
use Rattle.gen_general.specs.Recording.{HasOwnRoot, Recorder, StandBefore, recorder_at_start, with_recvs, with_sends}
use Rattle.gen_node.specs.declared.stages.Stage.{Stage}
use Rattle.gen_node.specs.declared.stages.Stage.TheVariants.{Between, Sending, Open, Hearing}
use Rattle.gen_node.specs.Held.{Held, frame_in}
use Rattle.gen_node.specs.Node.{SignsRound, Node, header_at, near_at, neighbours_at}

-- the place in the order of a log before which all stands that the node has written
abbrev pub next_place : Stage → ℕ → List ℕ
next_place Between round = (round + 1) ∷ []
next_place (Sending next) round = round ∷ 1 ∷ next ∷ []
next_place Open round = round ∷ 2 ∷ []
next_place (Hearing next) round = round ∷ 2 ∷ next ∷ []

-- what the node holds for a neighbour: the parcels of the frame to it
abbrev pub held_for : Recorder → ℕ → Held
held_for r to = record { general = to; parcels = sends r.standing to }

-- the frames that the node holds are those to the neighbours to which it has sent
abbrev pub HoldsFrames : Stage → Recorder → List Held → Type 0
HoldsFrames Between r out = Unit {0}
HoldsFrames (Sending next) r out =
    (next ≤ (header_at r).network.generals) × (out ≡ map (held_for r) (near_at r (range_with_len 0 next)))
HoldsFrames Open r out = out ≡ map (held_for r) (neighbours_at r)
HoldsFrames (Hearing next) r out = Unit {0}

-- the general's log with START alone: what a node keeps beside its log is the same whatever it has written
abbrev pub log_begun : Part → LogWriter
log_begun k = open_log k.header k.me (Start k.me k.own ∷ []) 0

-- what always holds of a node between calls
pub record IsNode (h : RunHeader) (r : Recorder) (stage : Stage) (out : List Held) : Type 0 where
  pub header : header_at r ≡ h
  pub unscripted : r.standing.known.script ≡ None
  pub ring : IsSome r.standing.ring
  pub root : HasOwnRoot r.standing.known r.standing.ring
  pub acts : IsRecord r.standing (log_begun r.standing.known)
  pub place : StandBefore h.network r.written (next_place stage r.standing.round)
  pub holds : HoldsFrames stage r out

-- g is a neighbour of the recorder's general
abbrev pub is_near : Recorder → ℕ → Bool
is_near r g = list_any (joins r.standing.known.me g) (header_at r).network.edges

-- the node after it has sent to one general more, if that is a neighbour
abbrev pub sent_one : Node → ℕ → Node
sent_one n next = record {
  recorder = if is_near n.recorder next then with_sends n.recorder next else n.recorder;
  stage = Sending (next + 1);
  inbox = n.inbox;
}

-- the node after it has heard one general more, if that is a neighbour
abbrev pub heard_one : Node → ℕ → Node
heard_one n next = record {
  recorder = if is_near n.recorder next then with_recvs n.recorder next (frame_in next n.inbox)
      else n.recorder;
  stage = Hearing (next + 1);
  inbox = n.inbox;
}

-- a round is half begun
abbrev pub is_sending : Stage → Bool
is_sending (Sending next) = true
is_sending _ = false

-- the first general to which a frame is still to be made; 0 if no round is half begun
abbrev pub next_sent : Stage → ℕ
next_sent (Sending next) = next
next_sent _ = 0

-- the node has signed what it signs in the next round; if a round is half begun, nothing has changed
abbrev pub IsSignedFrom : Stage → Node → Node → Type 0
IsSignedFrom Between old new = SignsRound old new
IsSignedFrom _ old new = new ≡ old

-- the node of a part and its ring, before the first round
abbrev pub of_part : Part → Ring → Node
of_part part ring = record { recorder = recorder_at_start part (Some ring); stage = Between; inbox = [] }
