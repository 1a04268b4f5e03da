-- What a contract sees of a desk: the number of its places, and its history. All else is replayed.
use Rattle.std.specs.Prelude.{ℕ, ◌≡◌, ◌<◌, ◌++◌, true, List, [], ◌∷◌, Some, None, IsSome}
use Rattle.gen_log.specs.Writing.{LogBytes}
use Rattle.gen_desk.specs.declared.faults.DeskFault.{DeskFault}
use Rattle.gen_desk.specs.declared.faults.DeskFault.TheVariants.{WrongPlace, WrongExhibit, Memory}
use Rattle.gen_desk.specs.declared.rows.Row.{Row}
use Rattle.gen_desk.specs.Tokens.{Placed}
use Rattle.gen_desk.specs.History.{Event, row_at, replay, IsWaiting, IsFirstWaiting}

-- the number of places, which are numbered from 0, and the events, the first event first
pub record History : Type 0 where
  pub places : ℕ
  pub events : List Event

-- what is filed, claimed and reported at each place after the history
abbrev pub rows_of : History → List Row
rows_of h = replay h.places h.events

-- the history with one more event
abbrev pub with_event : History → Event → History
with_event h e = record { places = h.places; events = h.events ++ e ∷ [] }

-- a log can be filed at the place
abbrev pub IsOpen : History → ℕ → Type 0
IsOpen h p = (p < h.places) × ((row_at (rows_of h) p).filed ≡ None)

-- the place is claimed and not reported on
abbrev pub IsAwaited : History → ℕ → Type 0
IsAwaited h p = ((row_at (rows_of h) p).claimed ≡ true) × ((row_at (rows_of h) p).report ≡ None)

-- this is filed at the place
abbrev pub IsFiledAt : History → ℕ → LogBytes → Type 0
IsFiledAt h p shown = (row_at (rows_of h) p).filed ≡ Some shown

-- no place has something filed that isn't claimed
abbrev pub NobodyWaits : History → Type 0
NobodyWaits h = (p : ℕ) → IsWaiting (row_at (rows_of h) p) → ⊥

-- each place is reported on
abbrev pub AllReported : History → Type 0
AllReported h = (p : ℕ) → p < h.places → IsSome (row_at (rows_of h) p).report

-- the fault of a filing: nothing can be filed at the place, or else memory was refused
abbrev pub FilingFault : History → ℕ → DeskFault → Type 0
FilingFault h p WrongPlace = IsOpen h p → ⊥
FilingFault h p WrongExhibit = ⊥
FilingFault h p Memory = IsOpen h p

-- the fault of a report: no report is awaited there; or else it is not of what is filed there; or else memory
-- was refused
abbrev pub ReportFault : History → ℕ → LogBytes → DeskFault → Type 0
ReportFault h p shown WrongPlace = IsAwaited h p → ⊥
ReportFault h p shown WrongExhibit = IsAwaited h p × (IsFiledAt h p shown → ⊥)
ReportFault h p shown Memory = IsAwaited h p × IsFiledAt h p shown

-- the claim is of the least place with something filed that isn't claimed, and has what is filed there
pub record IsClaimed (h : History) (claim : Placed) : Type 0 where
  pub first : IsFirstWaiting (rows_of h) claim.place
  pub shown : IsFiledAt h claim.place claim.shown
