-- Frames: what a frame keeps, and its one spelling in bytes.
use Rattle.std.specs.Prelude.{ℕ, ◌≡◌, ◌<◌, ◌^◌, List, [], ◌∷◌, ◌++◌, length}
use Rattle.std.specs.List.{flat_map, AllByRecursion}
use Rattle.std.specs.Int.{w16, w32, to_be_bytes}
use Rattle.gen_log.specs.Log.{run_id_length}
use Rattle.gen_node.specs.declared.frames.FrameFront.{FrameFront}
use Rattle.gen_node.specs.declared.frames.FrameHead.{FrameHead}

-- a frame: its front, and its parcels
pub record WireFrame : Type 0 where
  pub front : FrameFront
  pub parcels : List (List ℕ)

-- the mark: the four bytes of SMF1 as a big-endian number
abbrev pub frame_mark : ℕ
frame_mark = 1397573169

-- the run id has 32 numbers, and the round, the sender and the receiver are bytes
pub record IsFront (f : FrameFront) : Type 0 where
  pub run_id : length f.run_id ≡ run_id_length
  pub round : f.round < 256
  pub from : f.from < 256
  pub to : f.to < 256

-- the front fits, and the number of parcels fits into two bytes
pub record IsHead (h : FrameHead) : Type 0 where
  pub front : IsFront h.front
  pub few : h.parcel_count < 2 ^ 16

-- the parcel's length fits into four bytes
abbrev pub IsParcel : List ℕ → Type 0
IsParcel parcel = length parcel < 2 ^ 32

-- the front fits, the number of parcels fits into two bytes, and each parcel's length into four
pub record IsFrame (f : WireFrame) : Type 0 where
  pub front : IsFront f.front
  pub few : length f.parcels < 2 ^ 16
  pub short : AllByRecursion IsParcel f.parcels

-- the spelling of a front: the mark, the run id, the round, the sender and the receiver
abbrev pub front_spelling : FrameFront → List ℕ
front_spelling f = to_be_bytes w32 frame_mark ++ (f.run_id ++ f.round ∷ f.from ∷ f.to ∷ [])

-- the spelling of a head: its front, and the number of parcels in two bytes
abbrev pub head_spelling : FrameHead → List ℕ
head_spelling h = front_spelling h.front ++ to_be_bytes w16 h.parcel_count

-- the spelling of a parcel: its length in four bytes, and the parcel
abbrev pub parcel_spelling : List ℕ → List ℕ
parcel_spelling parcel = to_be_bytes w32 (length parcel) ++ parcel

-- the head of a frame
abbrev pub head_of : WireFrame → FrameHead
head_of f = record { front = f.front; parcel_count = length f.parcels }

-- the spelling of a frame: its head, and the parcels
abbrev pub frame_spelling : WireFrame → List ℕ
frame_spelling f = head_spelling (head_of f) ++ flat_map parcel_spelling f.parcels
