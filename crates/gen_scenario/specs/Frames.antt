-- The frame that a general sends a neighbour in a round. It is made of what the general knows of its own, and
-- of what it heard before.
use Rattle.std.specs.Prelude.{ℕ, ◌+◌, ◌-◌, ◌==◌, ◌&&◌, not, if◌then◌else◌, Bool, false, List, [], ◌∷◌, length, map, filter, Option, Some, None}
use Rattle.std.specs.List.{range_with_len, list_any, flat_map}
use Rattle.gen_types.specs.Ends.{is_among}
use Rattle.gen_chain.specs.Chain.{Chain, signed_path, chain_spelling}
use Rattle.gen_script.specs.declared.lines.ScriptLine.{ScriptLine}
use Rattle.gen_script.specs.declared.lines.ScriptLine.TheVariants.{Make, Pass, Bend, Raw}
use Rattle.gen_scenario.specs.declared.heard.Heard.{Heard}
use Rattle.gen_scenario.specs.Heard.{round_of, first_of, heard_from}
use Rattle.gen_scenario.specs.Signing.{Keys, made, lengthened, bent}

-- what a general knows of its own: the keys with which it signs, its number, its order if it is the
-- commander, and the lines of its script if it has one
pub record Sender : Type 0 where
  pub keys : Keys
  pub me : ℕ
  pub own : Option ℕ
  pub script : Option (List ScriptLine)

-- ---- generals without a script

-- a chain that was first heard in the round before, lengthened by the general's own signature
abbrev pub relayed : Keys → ℕ → ℕ → Option Heard → List Chain
relayed k me round None = []
relayed k me round (Some x) = if round_of x + 1 == round then lengthened k x.chain (me ∷ []) ∷ [] else []

-- what a lieutenant relays in a round: the chains of the orders that it added in the round before, in
-- ascending order of orders
unfoldable pub relays_in : Keys → ℕ → List Heard → ℕ → List Chain
relays_in k me heard round =
    flat_map (λ order. relayed k me round (first_of order heard)) (range_with_len 0 k.header.network.orders)

-- what a general signs in a round: the commander signs its order in round 1, a lieutenant signs what it
-- relays
abbrev pub signed_in : Keys → ℕ → Option ℕ → List Heard → ℕ → List Chain
signed_in k me (Some order) heard round = if round == 1 then made k order (0 ∷ []) ∷ [] else []
signed_in k me None heard round = relays_in k me heard round

-- those of these chains that go to a neighbour: the neighbour has not signed them
abbrev pub outside_of : ℕ → List Chain → List Chain
outside_of to chains = filter (λ c. not (is_among (signed_path c.signers) to)) chains

-- ---- generals with a script

-- a chain that was heard, lengthened by a path, unless a general of the path has signed it already
abbrev pub passed : Keys → List ℕ → Option Heard → List Chain
passed k path None = []
passed k path (Some x) =
    if list_any (is_among (signed_path x.chain.signers)) path then [] else lengthened k x.chain path ∷ []

-- the chain that a line has its general sign and send, if it is a `make` or `pass` line
abbrev pub signed_by_line : Keys → List Heard → ScriptLine → List Chain
signed_by_line k heard (Make round to order path) = made k order path ∷ []
signed_by_line k heard (Pass round to from order path) =
    passed k path (heard_from (round - length path) from order heard)
signed_by_line k heard _ = []

-- the parcels that a line puts into a frame: one or none
abbrev pub parcels_of : Keys → ℕ → List Heard → ScriptLine → List (List ℕ)
parcels_of k me heard (Bend round to from order) =
    map (λ c. chain_spelling (bent c)) (passed k (me ∷ []) (heard_from (round - 1) from order heard))
parcels_of k me heard (Raw round to parcel) = parcel ∷ []
parcels_of k me heard line = map chain_spelling (signed_by_line k heard line)

-- whether the line sends something to this neighbour in this round
abbrev pub is_for : ℕ → ℕ → ScriptLine → Bool
is_for at neighbour (Make round to order path) = round == at && to == neighbour
is_for at neighbour (Pass round to from order path) = round == at && to == neighbour
is_for at neighbour (Bend round to from order) = round == at && to == neighbour
is_for at neighbour (Raw round to parcel) = round == at && to == neighbour
is_for at neighbour _ = false

-- ---- the frame

unfoldable pub followers_frame : Sender → List Heard → ℕ → ℕ → List (List ℕ)
followers_frame p heard round to =
    map chain_spelling (outside_of to (signed_in p.keys p.me p.own heard round))

unfoldable pub traitors_frame : Keys → ℕ → List ScriptLine → List Heard → ℕ → ℕ → List (List ℕ)
traitors_frame k me lines heard round to = flat_map (parcels_of k me heard) (filter (is_for round to) lines)

abbrev pub frame_by : Sender → Option (List ScriptLine) → List Heard → ℕ → ℕ → List (List ℕ)
frame_by p None heard round to = followers_frame p heard round to
frame_by p (Some lines) heard round to = traitors_frame p.keys p.me lines heard round to

-- the frame that a general sends a neighbour in a round, where `heard` is what it heard in earlier rounds
unfoldable pub frame_of : Sender → List Heard → ℕ → ℕ → List (List ℕ)
frame_of p heard round to = frame_by p p.script heard round to
