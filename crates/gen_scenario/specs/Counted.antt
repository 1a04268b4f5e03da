-- The chains of a frame that count at its receiver, as a list in the order of their parcels.
use Rattle.std.specs.Prelude.{ℕ, Bool, false, not, ◌&&◌, ◌==◌, if◌then◌else◌, List, [], ◌∷◌, length, filter, Result, Ok, Err, nat_le}
use Rattle.std.specs.List.{flat_map}
use Rattle.gen_types.specs.Ends.{is_among}
use Rattle.gen_net.specs.Header.{RunHeader, height_of}
use Rattle.gen_chain.specs.declared.fault.ChainFault.{ChainFault}
use Rattle.gen_chain.specs.Chain.{Chain, signed_path}
use Rattle.gen_chain.specs.ChainReading.{chain_at}
use Rattle.gen_scenario.specs.declared.delivery.Delivery.{Delivery}
use Rattle.gen_scenario.specs.Counting.{AreCounted}
use Rattle.gen_chain.specs.Verified.{is_verified}

-- whether the general is the last of the path
abbrev pub is_last : List ℕ → ℕ → Bool
is_last [] g = false
is_last (a ∷ []) g = a == g
is_last (a ∷ b ∷ path) g = is_last (b ∷ path) g

-- whether a chain of a frame may count: it has as many signers as the round's number, the sender is the last
-- of them, the receiver is none of them, and the signatures verify
unfoldable pub may_count : RunHeader → Delivery → Chain → Bool
may_count h d c =
    (length (signed_path c.signers) == d.round && is_last (signed_path c.signers) d.from)
    && (not (is_among (signed_path c.signers) d.to) && is_verified h c)

-- the chain that was read of a parcel, if no bytes are left behind it and it may count
abbrev pub if_whole : RunHeader → Delivery → Result (Chain × List ℕ) ChainFault → List Chain
if_whole h d (Err fault) = []
if_whole h d (Ok read) = if length read.1 == 0 && may_count h d read.0 then read.0 ∷ [] else []

-- the chain that a parcel carries: a list of one chain, or of none
unfoldable pub carried_by : RunHeader → Delivery → List ℕ → List Chain
carried_by h d parcel = if_whole h d (chain_at (height_of h) parcel)

-- the first chain of each order, in the order of the list
unfoldable pub firsts : List Chain → List Chain
firsts [] = []
firsts (c ∷ others) = c ∷ filter (λ k. not (k.order == c.order)) (firsts others)

-- the chains of a frame that count, or none if the frame has more parcels than there are orders
unfoldable pub counted_of : RunHeader → Delivery → List (List ℕ) → List Chain
counted_of h d frame =
    if nat_le (length frame) h.network.orders then firsts (flat_map (carried_by h d) frame) else []

-- the list of a frame has exactly the chains that count, one for each order
abbrev pub CountsThese : Type 0
CountsThese =
    (h : RunHeader) (d : Delivery) (frame : List (List ℕ)) → AreCounted h d frame (counted_of h d frame)
