-- Reading a frame from left to right, with the first fault that is met.
use Rattle.std.specs.Prelude.{ℕ, ◌==◌, List, length, Result, Ok}
use Rattle.std.specs.Int.{w16, w32}
use Rattle.gen_types.specs.Reading.{◌>>=◌, check}
use Rattle.gen_types.specs.Bytes.{byte_at, bytes_at, number_at, many_at}
use Rattle.gen_log.specs.Log.{run_id_length}
use Rattle.gen_node.specs.declared.frames.FrameFront.{FrameFront}
use Rattle.gen_node.specs.declared.frames.FrameHead.{FrameHead}
use Rattle.gen_node.specs.declared.frame_fault.FrameFault.{FrameFault}
use Rattle.gen_node.specs.declared.frame_fault.FrameFault.TheVariants as faults
use Rattle.gen_node.specs.Frame.{WireFrame, frame_mark}

-- reads the mark and the run id: the run id and the bytes after it, or the first fault
unfoldable pub run_at : List ℕ → Result (List ℕ × List ℕ) FrameFault
run_at bytes = do
  mark ← number_at faults.Truncated w32 bytes
  known ← check (mark.0 == frame_mark) faults.UnknownMark
  bytes_at faults.Truncated run_id_length mark.1

-- reads the front of a frame: the front and the bytes after it, or the first fault
unfoldable pub front_at : List ℕ → Result (FrameFront × List ℕ) FrameFault
front_at bytes = do
  run ← run_at bytes
  round ← byte_at faults.Truncated run.1
  from ← byte_at faults.Truncated round.1
  to ← byte_at faults.Truncated from.1
  Ok (record { run_id = run.0; round = round.0; from = from.0; to = to.0 }, to.1)

-- reads the head of a frame: the head and the bytes after it, or the first fault
unfoldable pub head_at : List ℕ → Result (FrameHead × List ℕ) FrameFault
head_at bytes = do
  front ← front_at bytes
  count ← number_at faults.Truncated w16 front.1
  Ok (record { front = front.0; parcel_count = count.0 }, count.1)

-- the head in front of the bytes, or the first fault
abbrev pub head_in : List ℕ → Result FrameHead FrameFault
head_in bytes = head_at bytes >>= (λ head. Ok head.0)

-- reads a parcel behind its length: the parcel and the bytes after it, or the first fault
unfoldable pub parcel_at : List ℕ → Result (List ℕ × List ℕ) FrameFault
parcel_at bytes = do
  size ← number_at faults.Truncated w32 bytes
  bytes_at faults.Truncated size.0 size.1

-- reads a frame: the frame and the bytes after it, or the first fault
unfoldable pub frame_at : List ℕ → Result (WireFrame × List ℕ) FrameFault
frame_at bytes = do
  head ← head_at bytes
  parcels ← many_at parcel_at head.0.parcel_count head.1
  Ok (record { front = head.0.front; parcels = parcels.0 }, parcels.1)

-- reads all the bytes as one frame: the frame, or the first fault
unfoldable pub whole_frame : List ℕ → Result WireFrame FrameFault
whole_frame bytes = do
  frame ← frame_at bytes
  all ← check (length frame.1 == 0) faults.LeftOver
  Ok frame.0
