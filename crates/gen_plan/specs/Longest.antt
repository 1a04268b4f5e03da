-- The most bytes of a frame of a node that follows the algorithm.
use Rattle.std.specs.Prelude.{ℕ, ◌+◌, ◌*◌}
use Rattle.gen_types.specs.declared.heights.TreeHeight.{TreeHeight}
use Rattle.gen_chain.specs.Chain.{signer_length}
use Rattle.gen_net.specs.Header.{RunHeader, height_of}
use Rattle.gen_net.specs.Network.{rounds}

-- the number of bytes of a frame without parcels
abbrev pub empty_frame : ℕ
empty_frame = 41

-- the number of bytes of a parcel, behind its length, of a chain with this many signers
unfoldable pub parcel_most : TreeHeight → ℕ → ℕ
parcel_most height signers = 6 + signer_length height * signers

-- the most bytes of a frame: one parcel for each order, each with a signer for each round
unfoldable pub frame_most : RunHeader → ℕ
frame_most h = empty_frame + h.network.orders * parcel_most (height_of h) (rounds h.network)
