-- What happens at a desk. A general files its log at a place. A worker claims the least place with a log that
-- isn't claimed, and then reports on that log.
use Rattle.std.specs.Prelude.{ℕ, ◌≡◌, ◌<◌, true, false, List, [], ◌∷◌, length, Some, None, IsSome, replicate, slice_index_or, slice_set}
use Rattle.gen_log.specs.Writing.{LogBytes}
use Rattle.gen_local.specs.Report.{LocalReport, IsReport}
use Rattle.gen_desk.specs.declared.rows.Row.{Row}

-- an event: a log is filed at a place, a place is claimed, or a report on what is filed at a place is made
pub data Event : Type 0 where
  Filing : (place : ℕ) → (shown : LogBytes) → Event
  Claiming : (place : ℕ) → Event
  Reporting : (place : ℕ) → (report : LocalReport) → Event

-- a place at which nothing happened
abbrev pub empty : Row
empty = record { filed = None; claimed = false; report = None }

-- what is at a place of these rows; at a place outside them nothing has happened
abbrev pub row_at : List Row → ℕ → Row
row_at rows p = slice_index_or rows p empty

-- the rows after an event
abbrev pub after : List Row → Event → List Row
after rows (Filing p shown) = slice_set rows p (record (row_at rows p) { filed = Some shown })
after rows (Claiming p) = slice_set rows p (record (row_at rows p) { claimed = true })
after rows (Reporting p report) = slice_set rows p (record (row_at rows p) { report = Some report })

-- something is filed at the place and not claimed
abbrev pub IsWaiting : Row → Type 0
IsWaiting row = IsSome row.filed × (row.claimed ≡ false)

-- p is the least place with something filed that isn't claimed
abbrev pub IsFirstWaiting : List Row → ℕ → Type 0
IsFirstWaiting rows p = IsWaiting (row_at rows p) × ((q : ℕ) → q < p → IsWaiting (row_at rows q) → ⊥)

-- An event may happen. A filing: the place is one of the desk's, and nothing was filed there. A claim: it is
-- of the first place with something filed that isn't claimed. A report: the place is claimed and not reported
-- on, and the report is that of what is filed there.
abbrev pub MayHappen : List Row → Event → Type 0
MayHappen rows (Filing p shown) = (p < length rows) × ((row_at rows p).filed ≡ None)
MayHappen rows (Claiming p) = (p < length rows) × IsFirstWaiting rows p
MayHappen rows (Reporting p report) = (p < length rows)
    × ((row_at rows p).claimed ≡ true)
    × ((row_at rows p).report ≡ None)
    × ((row_at rows p).filed ≡ Some report.exhibit) × IsReport report

-- the rows after a history, one event after another
abbrev pub replayed : List Row → List Event → List Row
replayed rows [] = rows
replayed rows (e ∷ es) = replayed (after rows e) es

-- each event of the history may happen after those before it
abbrev pub IsLegalFrom : List Row → List Event → Type 0
IsLegalFrom rows [] = Unit {0}
IsLegalFrom rows (e ∷ es) = MayHappen rows e × IsLegalFrom (after rows e) es

-- the rows of a desk with this number of places, after a history from its opening on
abbrev pub replay : ℕ → List Event → List Row
replay places = replayed (replicate places empty)

-- the history of a desk with this number of places is legal
abbrev pub IsLegal : ℕ → List Event → Type 0
IsLegal places = IsLegalFrom (replicate places empty)
