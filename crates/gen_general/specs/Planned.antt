-- What a general with a script sends in a round, line by line.
use Rattle.std.specs.Prelude.{ℕ, ◌≡◌, ◌==◌, Bool, false, List, [], ◌∷◌, map, filter, Some}
use Rattle.std.specs.List.{flat_map}
use Rattle.gen_chain.specs.Chain.{Chain, chain_spelling}
use Rattle.gen_script.specs.declared.lines.ScriptLine.{ScriptLine}
use Rattle.gen_script.specs.declared.lines.ScriptLine.TheVariants.{Make, Pass, Bend, Raw}
use Rattle.gen_scenario.specs.declared.heard.Heard.{Heard}
use Rattle.gen_general.specs.declared.scripted.Planned.{Planned}
use Rattle.gen_general.specs.declared.scripted.Planned.TheVariants.{Chain as Signed, Bytes}
use Rattle.gen_scenario.specs.Signing.{Keys}
use Rattle.gen_scenario.specs.Frames.{Sender, signed_by_line, parcels_of, traitors_frame}
use Rattle.gen_scenario.specs.RoundEntries.{signs_by, sends_by}

-- whether the line sends something in this round
abbrev pub is_sent_in : ℕ → ScriptLine → Bool
is_sent_in at (Make round to order path) = round == at
is_sent_in at (Pass round to from order path) = round == at
is_sent_in at (Bend round to from order) = round == at
is_sent_in at (Raw round to parcel) = round == at
is_sent_in at _ = false

-- what the line sends: a chain, or other bytes
abbrev pub planned_of : Keys → ℕ → List Heard → ScriptLine → List Planned
planned_of k me heard (Make round to order path) =
    map (Signed to) (signed_by_line k heard (Make round to order path))
planned_of k me heard (Pass round to from order path) =
    map (Signed to) (signed_by_line k heard (Pass round to from order path))
planned_of k me heard (Bend round to from order) =
    map (Bytes to) (parcels_of k me heard (Bend round to from order))
planned_of k me heard (Raw round to parcel) = Bytes to parcel ∷ []
planned_of k me heard _ = []

-- what the lines send in a round
unfoldable pub planned_in : Keys → ℕ → List ScriptLine → List Heard → ℕ → List Planned
planned_in k me lines heard round = flat_map (planned_of k me heard) (filter (is_sent_in round) lines)

-- the neighbour that gets it, its bytes, and the chain that it is, if it is one
abbrev pub receiver_of : Planned → ℕ
receiver_of (Signed to chain) = to
receiver_of (Bytes to parcel) = to

abbrev pub bytes_of : Planned → List ℕ
bytes_of (Signed to chain) = chain_spelling chain
bytes_of (Bytes to parcel) = parcel

abbrev pub chain_of : Planned → List Chain
chain_of (Signed to chain) = chain ∷ []
chain_of (Bytes to parcel) = []

-- what is planned for one neighbour
abbrev pub planned_to : ℕ → List Planned → List Planned
planned_to to planned = filter (λ one. receiver_of one == to) planned

-- ---- laws

-- the bytes of what is planned for a neighbour are the frame to that neighbour
abbrev pub PlansFrames : Type 0
PlansFrames =
    (k : Keys) (me : ℕ) (lines : List ScriptLine) (heard : List Heard) (round to : ℕ)
    → map bytes_of (planned_to to (planned_in k me lines heard round))
    ≡ traitors_frame k me lines heard round to

-- the planned chains are what the general signs, and those for a neighbour are what it sends that neighbour
abbrev pub PlansSigns : Type 0
PlansSigns =
    (p : Sender) (lines : List ScriptLine) (heard : List Heard) (round : ℕ)
    → flat_map chain_of (planned_in p.keys p.me lines heard round) ≡ signs_by p (Some lines) heard round

abbrev pub PlansSends : Type 0
PlansSends =
    (p : Sender) (lines : List ScriptLine) (heard : List Heard) (round to : ℕ)
    → flat_map chain_of (planned_to to (planned_in p.keys p.me lines heard round))
    ≡ sends_by p (Some lines) heard round to
