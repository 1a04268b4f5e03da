-- What a general keeps besides its own knowledge and what it heard: this depends on whether it has a script.
use Rattle.std.specs.Prelude.{ℕ, ◌≡◌, ◌≤◌, Bool, true, not, List, [], Option, Some, None, length, map, take}
use Rattle.std.specs.List.{flat_map}
use Rattle.gen_tree.specs.Rings.{Ring}
use Rattle.gen_scenario.specs.declared.heard.Heard.{Heard}
use Rattle.gen_general.specs.declared.roles.Role.{Role}
use Rattle.gen_general.specs.declared.roles.Role.TheVariants.{Loyal, Scripted}
use Rattle.gen_types.specs.Ends.{is_among}
use Rattle.gen_chain.specs.Chain.{Chain, chain_spelling, signed_path}
use Rattle.gen_scenario.specs.Frames.{outside_of}
use Rattle.gen_general.specs.Following.{AreOthers}
use Rattle.gen_scenario.specs.Part.{Part}
use Rattle.gen_general.specs.Loops.Acting.{IsHand, IsFree, HasSignedIt, HasScript, HasPlanned}
use Rattle.gen_general.specs.declared.scripted.Planned.{Planned}
use Rattle.gen_general.specs.Planned.{bytes_of, chain_of, planned_to}

-- the ring of the general, if it has one
abbrev pub ring_of : Role → Option Ring
ring_of (Loyal hand) = Some hand.ring
ring_of (Scripted planned) = None

-- the general has signed and planned nothing yet
abbrev pub IsStart : Role → Type 0
IsStart (Loyal hand) = hand.signed ≡ []
IsStart (Scripted planned) = planned ≡ []

-- what holds of a role in this round, where `before` was heard before the round began
abbrev pub IsRole : Part → List Heard → List Heard → ℕ → Role → Type 0
IsRole k heard before round (Loyal hand) = IsHand k heard before round hand
IsRole k heard before round (Scripted planned) = HasScript k × HasPlanned k before round planned

-- the frame to a neighbour
abbrev pub role_frame : Role → ℕ → List (List ℕ)
role_frame (Loyal hand) to = map chain_spelling (outside_of to hand.signed)
role_frame (Scripted planned) to = map bytes_of (planned_to to planned)

-- whether the chain may go to this neighbour, which has not signed it; every chain may, if none is given
abbrev pub goes_to : Option ℕ → Chain → Bool
goes_to None c = true
goes_to (Some to) c = not (is_among (signed_path c.signers) to)

-- those of these chains that may go to this neighbour, or all if none is given
abbrev pub chains_to : Option ℕ → List Chain → List Chain
chains_to None cs = cs
chains_to (Some to) cs = outside_of to cs

-- what is planned for this neighbour, or all that is planned if none is given
abbrev pub plans_to : Option ℕ → List Planned → List Planned
plans_to None planned = planned
plans_to (Some to) planned = planned_to to planned

-- the chains that the general sends this neighbour in this round, or those that it signs if none is given
abbrev pub role_chains : Role → Option ℕ → List Chain
role_chains (Loyal hand) to = chains_to to hand.signed
role_chains (Scripted planned) to = flat_map chain_of (plans_to to planned)

-- the general may begin a round
abbrev pub MayBegin : Part → List Heard → ℕ → Role → Type 0
MayBegin k heard round (Loyal hand) = IsFree k heard round hand
MayBegin k heard round (Scripted planned) = HasScript k

-- the general has begun the round
abbrev pub RoleBegan : Part → List Heard → ℕ → Role → Role → Type 0
RoleBegan k heard round (Loyal old) (Loyal new) = HasSignedIt k heard round old new
RoleBegan k heard round (Scripted old) (Scripted new) = HasPlanned k heard round new
RoleBegan k heard round _ _ = ⊥

-- what holds of every general, with a script or without: `count` is how much it had heard when the round
-- began
pub record IsParticipant (k : Part) (role : Role) (heard : List Heard) (count round : ℕ) : Type 0 where
  pub begun : count ≤ length heard
  pub others : AreOthers k.header k.me heard
  pub acts : IsRole k heard (take count heard) round role
