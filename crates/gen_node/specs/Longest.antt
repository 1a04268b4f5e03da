-- How long the frames of a node that follows the algorithm are. By these bounds a transport may drop bytes.
use Rattle.std.specs.Prelude.{ℕ, ◌+◌, ◌*◌, ◌≤◌, length}
use Rattle.gen_net.specs.Header.{RunHeader, height_of}
use Rattle.gen_plan.specs.Longest.{empty_frame, frame_most, parcel_most}
use Rattle.gen_node.specs.Frame.{WireFrame, frame_spelling}

-- the most bytes of a frame of this round: one parcel for each order, each with a signer for each round up to
-- this one
unfoldable pub frame_most_in : RunHeader → ℕ → ℕ
frame_most_in h round = empty_frame + h.network.orders * parcel_most (height_of h) round

-- The frame has at most one parcel for each order. Its bytes are at least as many as those of a frame without
-- parcels, and at most as many as those of the longest frame, of its round and of the run.
pub record IsInBounds (h : RunHeader) (f : WireFrame) : Type 0 where
  pub few : length f.parcels ≤ h.network.orders
  pub least : empty_frame ≤ length (frame_spelling f)
  pub of_round : length (frame_spelling f) ≤ frame_most_in h f.front.round
  pub most : length (frame_spelling f) ≤ frame_most h
