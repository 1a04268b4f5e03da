-- How a desk keeps its history: the steps in their order, and the content of each at its place.
use Rattle.std.specs.Prelude.{◌≡◌, List, [], ◌∷◌, length, map, IsSome}
use Rattle.std.specs.Option.{option_to_list}
use Rattle.std.specs.List.{flat_map}
use Rattle.gen_desk.specs.declared.rows.Row.{Row}
use Rattle.gen_desk.specs.declared.rows.Step.{Step}
use Rattle.gen_desk.specs.declared.rows.Step.TheVariants.{Filed, Claimed, Reported}
use Rattle.gen_desk.specs.History.{Event, Filing, Claiming, Reporting, row_at, replay, IsLegal}
use Rattle.gen_desk.specs.Histories.{History}

-- the event of a step, if the place has its content
abbrev pub event_of : List Row → Step → List Event
event_of rows (Filed p) = map (Filing p) (option_to_list (row_at rows p).filed)
event_of rows (Claimed p) = Claiming p ∷ []
event_of rows (Reported p) = map (Reporting p) (option_to_list (row_at rows p).report)

-- the place has the content of the step
abbrev pub IsTold : List Row → Step → Type 0
IsTold rows (Filed p) = IsSome (row_at rows p).filed
IsTold rows (Claimed p) = Unit {0}
IsTold rows (Reported p) = IsSome (row_at rows p).report

-- the place of each step has its content
abbrev pub AreTold : List Row → List Step → Type 0
AreTold rows [] = Unit {0}
AreTold rows (s ∷ ss) = IsTold rows s × AreTold rows ss

-- the events of the steps, in their order
abbrev pub events_of : List Row → List Step → List Event
events_of rows steps = flat_map (event_of rows) steps

-- the history of a desk that keeps these rows and steps
abbrev pub history_of : List Row → List Step → History
history_of rows steps = record { places = length rows; events = events_of rows steps }

-- the history is legal, and replaying it gives the rows
pub record IsKept (rows : List Row) (steps : List Step) : Type 0 where
  pub told : AreTold rows steps
  pub legal : IsLegal (length rows) (events_of rows steps)
  pub replays : replay (length rows) (events_of rows steps) ≡ rows
