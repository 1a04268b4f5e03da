-- What is told of the head of a frame.
use Rattle.std.specs.Prelude.{ℕ, ◌≡◌, List, Ok, Err}
use Rattle.gen_node.specs.declared.frame_fault.FrameFault.{FrameFault}
use Rattle.gen_node.specs.declared.frames.FrameHead.{FrameHead}
use Rattle.gen_node.specs.FrameReading.{head_in}
use Rattle.sm_node.specs.declared.heads.SmFrameHead.{SmFrameHead}
use Rattle.sm_node.specs.declared.told.NodeReply.{NodeReply}
use Rattle.sm_node.specs.declared.told.NodeReply.TheVariants.{Done, Misuse, Fault, Memory, Length}
use Rattle.sm_node.specs.Faults.{frame_number}

-- the parts of a head, as they are told
abbrev pub parts_of : FrameHead → SmFrameHead
parts_of h = record {
  run_id = h.front.run_id;
  round = h.front.round;
  sender = h.front.from;
  receiver = h.front.to;
  parcel_count = h.parcel_count;
}

-- the head in front of the bytes is told; or what was there stays, and the number of the first fault is told
abbrev pub TellsHead : List ℕ → SmFrameHead → SmFrameHead → ℕ → NodeReply → Type 0
TellsHead bytes old new fault Done =
    (fault ≡ 0) × ((h : FrameHead) × (head_in bytes ≡ Ok h) × (new ≡ parts_of h))
TellsHead bytes old new fault Fault =
    (new ≡ old) × ((f : FrameFault) × (head_in bytes ≡ Err f) × (fault ≡ frame_number f))
TellsHead bytes old new fault Misuse = ⊥
TellsHead bytes old new fault Memory = ⊥
TellsHead bytes old new fault Length = ⊥
