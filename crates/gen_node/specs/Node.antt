-- A node as it stands between calls, and what each call makes of it.
use Rattle.std.specs.Prelude.{ℕ, ◌≡◌, ◌-◌, ◌==◌, ◌&&◌, not, Bool, true, false, List, [], ◌∷◌, ◌++◌}
use Rattle.std.specs.Prelude.{Option, Some, Result, Ok, is_some, nat_lt}
use Rattle.std.specs.List.{range_with_len}
use Rattle.std.specs.Str.{bytes_eq}
use Rattle.gen_types.specs.Ends.{is_among}
use Rattle.gen_types.specs.Reading.{◌>>=◌, check}
use Rattle.gen_tree.specs.Rings.{KeyTree, Ring, ring_root}
use Rattle.gen_net.specs.Header.{RunHeader, height_of, root_of, run_id_of}
use Rattle.gen_net.specs.Network.{rounds}
use Rattle.gen_scenario.specs.declared.scenario.Decision.{Decision}
use Rattle.gen_scenario.specs.Deciding.{decided_by}
use Rattle.gen_scenario.specs.Part.{CanFollow, followers_part}
use Rattle.gen_scenario.specs.SignedWorld.{near_of, neighbours_of}
use Rattle.gen_general.specs.Participant.{sends}
use Rattle.gen_general.specs.Recording.{Recorder, RecordsRound, recorder_at_start, with_recvs, with_sends}
use Rattle.gen_node.specs.declared.frame_fault.FrameFault.{FrameFault}
use Rattle.gen_node.specs.declared.frame_fault.FrameFault.TheVariants as faults
use Rattle.gen_node.specs.declared.frames.FrameFront.{FrameFront}
use Rattle.gen_node.specs.declared.node_fault.NodeFault.{NodeFault}
use Rattle.gen_node.specs.declared.node_fault.NodeFault.TheVariants.{Memory, NoGeneral, OtherHeight, OtherRoot}
use Rattle.gen_node.specs.declared.stages.Stage.{Stage}
use Rattle.gen_node.specs.declared.stages.Stage.TheVariants.{Between, Sending, Open, Hearing}
use Rattle.gen_node.specs.Frame.{WireFrame}
use Rattle.gen_node.specs.FrameReading.{whole_frame}
use Rattle.gen_node.specs.Held.{Held, held_of, frame_in}

-- a node: its recorder, its stage in the round, and the frames of this round that were handed in
pub record Node : Type 0 where
  pub recorder : Recorder
  pub stage : Stage
  pub inbox : List Held

-- the node of general g before the first round, with an order of its own (for the commander) and a ring
abbrev pub node_at_start : RunHeader → ℕ → Option ℕ → Ring → Node
node_at_start h g own ring = record {
  recorder = recorder_at_start (followers_part h g own) (Some ring);
  stage = Between;
  inbox = [];
}

-- ---- when there is a node

-- the ring of a tree of keys, from which no leaf was taken
abbrev pub fresh_ring : KeyTree → Ring
fresh_ring tree = record { seed = tree.seed; height = tree.height; taken = [] }

-- The ring has the height of the header's version. g is one of the header's generals, with an order if and
-- only if it is the commander. The header has the root of its keys.
pub record MayBeNode (h : RunHeader) (g : ℕ) (own : Option ℕ) (ring : Ring) : Type 0 where
  pub height : ring.height ≡ height_of h
  pub general : CanFollow h g own
  pub root : ring_root ring.seed ring.height ≡ root_of h g

-- why there is no node: the first of these three, in this order, that doesn't hold; or memory was refused
abbrev pub IsRefused : RunHeader → ℕ → Option ℕ → Ring → NodeFault → Type 0
IsRefused h g own ring Memory = Unit {0}
IsRefused h g own ring OtherHeight = ring.height ≡ height_of h → ⊥
IsRefused h g own ring NoGeneral = (ring.height ≡ height_of h) × (CanFollow h g own → ⊥)
IsRefused h g own ring OtherRoot =
    (ring.height ≡ height_of h) × CanFollow h g own × (ring_root ring.seed ring.height ≡ root_of h g → ⊥)

-- ---- what a node knows of the run

abbrev pub header_at : Recorder → RunHeader
header_at r = r.standing.known.header

-- the node's neighbours among these generals
abbrev pub near_at : Recorder → List ℕ → List ℕ
near_at r gs = near_of (header_at r).network r.standing.known.me gs

-- all generals from a number on
abbrev pub from_on : Recorder → ℕ → List ℕ
from_on r next = range_with_len next ((header_at r).network.generals - next)

abbrev pub neighbours_at : Recorder → List ℕ
neighbours_at r = neighbours_of (header_at r).network r.standing.known.me

-- ---- a round begins

-- the recorder after it has sent to these generals one after another
unfoldable pub sends_all : List ℕ → Recorder → Recorder
sends_all [] r = r
sends_all (to ∷ tos) r = sends_all tos (with_sends r to)

-- the node after it has sent to all its neighbours from a number on: the round is open
abbrev pub sent_from : ℕ → Node → Node
sent_from next n = record {
  recorder = sends_all (near_at n.recorder (from_on n.recorder next)) n.recorder;
  stage = Open;
  inbox = n.inbox;
}

-- a round may begin, or a half begun one may go on: there is another round, or one is half begun
abbrev pub begins_in : Stage → ℕ → ℕ → Bool
begins_in Between round all = nat_lt round all
begins_in (Sending next) round all = true
begins_in Open round all = false
begins_in (Hearing next) round all = false

abbrev pub may_begin : Node → Bool
may_begin n = begins_in n.stage n.recorder.standing.round (rounds (header_at n.recorder).network)

-- the node has signed what it signs in the next round, and nothing was handed in yet
pub record SignsRound (old new : Node) : Type 0 where
  pub signs : RecordsRound old.recorder new.recorder
  pub stage : new.stage ≡ Sending 0
  pub inbox : new.inbox ≡ []

-- The round has begun: the node has signed, and made the frames to all its neighbours. If the round was half
-- begun, it has made the frames that were left.
abbrev pub IsBegunFrom : Stage → Node → Node → Type 0
IsBegunFrom Between old new = (signed : Node) × SignsRound old signed × (new ≡ sent_from 0 signed)
IsBegunFrom (Sending next) old new = new ≡ sent_from next old
IsBegunFrom Open old new = ⊥
IsBegunFrom (Hearing next) old new = ⊥

abbrev pub IsBegun : Node → Node → Type 0
IsBegun old new = IsBegunFrom old.stage old new

-- ---- frames go out and come in

abbrev pub is_open : Stage → Bool
is_open Open = true
is_open _ = false

-- a frame goes out to a general and one from it is awaited: a round is open, and the general is a neighbour
abbrev pub awaits : Node → ℕ → Bool
awaits n g = is_open n.stage && is_among (neighbours_at n.recorder) g

-- a frame from this general is still awaited: none was handed in for it
abbrev pub is_awaited : Node → ℕ → Bool
is_awaited n from = awaits n from && not (is_some (held_of from n.inbox))

-- the node's frame of this round to a neighbour
abbrev pub frame_to : Recorder → ℕ → WireFrame
frame_to r to = record {
  front = record {
    run_id = run_id_of (header_at r);
    round = r.standing.round;
    from = r.standing.known.me;
    to = to;
  };
  parcels = sends r.standing to;
}

-- checks that the front is of this run and round, from this general to the node: the first fault if not
unfoldable pub front_check : Recorder → ℕ → FrameFront → Result (Unit {0}) FrameFault
front_check r from f = do
  run ← check (bytes_eq f.run_id (run_id_of (header_at r))) faults.OtherRun
  round ← check (f.round == r.standing.round) faults.OtherRound
  check (f.from == from && f.to == r.standing.known.me) faults.OtherEnds

-- the frame that is handed in as bytes for a general, or why it isn't taken
unfoldable pub awaited : Node → ℕ → List ℕ → Result WireFrame FrameFault
awaited n from bytes = do
  known ← check (awaits n from) faults.NotAwaited
  first ← check (not (is_some (held_of from n.inbox))) faults.Twice
  frame ← whole_frame bytes
  his ← front_check n.recorder from frame.front
  Ok frame

-- the node after a frame with these parcels was taken from a general
abbrev pub with_arrival : Node → ℕ → List (List ℕ) → Node
with_arrival n from parcels = record {
  recorder = n.recorder;
  stage = n.stage;
  inbox = n.inbox ++ record { general = from; parcels = parcels } ∷ [];
}

-- the node after bytes were handed in for a general, or why they aren't taken
abbrev pub handed : Node → ℕ → List ℕ → Result Node FrameFault
handed n from bytes = awaited n from bytes >>= (λ frame. Ok (with_arrival n from frame.parcels))

-- ---- a round ends

-- the recorder after it has heard these generals one after another
unfoldable pub hears_all : (ℕ → List (List ℕ)) → List ℕ → Recorder → Recorder
hears_all frames [] r = r
hears_all frames (from ∷ froms) r = hears_all frames froms (with_recvs r from (frames from))

-- the node after it has heard all its neighbours from a number on, the round being ended; a neighbour for
-- which nothing was handed in counts as one that sent nothing
abbrev pub heard_from : ℕ → Node → Node
heard_from next n = record {
  recorder = hears_all (λ from. frame_in from n.inbox)
      (near_at n.recorder (from_on n.recorder next)) n.recorder;
  stage = Between;
  inbox = [];
}

-- the first general that is still to be heard
abbrev pub next_heard : Stage → ℕ
next_heard (Hearing next) = next
next_heard _ = 0

abbrev pub ended : Node → Node
ended n = heard_from (next_heard n.stage) n

-- a round may end: one is open, or one is half ended
abbrev pub ends_in : Stage → Bool
ends_in Between = false
ends_in (Sending next) = false
ends_in Open = true
ends_in (Hearing next) = true

abbrev pub may_end : Node → Bool
may_end n = ends_in n.stage

-- ---- after the last round

abbrev pub over_in : Stage → ℕ → ℕ → Bool
over_in Between round all = round == all
over_in _ round all = false

abbrev pub is_over : Node → Bool
is_over n = over_in n.stage n.recorder.standing.round (rounds (header_at n.recorder).network)

-- what the node decides
abbrev pub decision_of_node : Recorder → Decision
decision_of_node r =
    decided_by (header_at r).network r.standing.known.me r.standing.known.own r.standing.heard
