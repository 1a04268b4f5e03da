-- The logs that reports of exhibits tell.
use Rattle.std.specs.Prelude.{ℕ, ◌≡◌, ◌==◌, List, [], ◌∷◌, filter, Contains, Option, Some, None}
use Rattle.gen_net.specs.Header.{RunHeader}
use Rattle.gen_net.specs.Log.{LogEntry}
use Rattle.gen_local.specs.declared.reading.Reading.{Reading}
use Rattle.gen_local.specs.declared.reading.Reading.TheVariants.{Unreadable, Foreign, Own}
use Rattle.gen_local.specs.Erased.{erased}
use Rattle.gen_local.specs.Report.{LocalReport}
use Rattle.gen_match.specs.Matching.{Logs}

-- the entries of an exhibit's log, if the exhibit is a log of its general and this run
abbrev pub entries_told : Reading → Option (List LogEntry)
entries_told (Unreadable fault) = None
entries_told Foreign = None
entries_told (Own found) = Some (erased found.log.entries)

-- the entries of the log of a single report; none if there are several reports or none
abbrev pub sole_told : List LocalReport → Option (List LogEntry)
sole_told (r ∷ []) = entries_told r.reading
sole_told _ = None

-- the reports that name a general
abbrev pub reports_of : List LocalReport → ℕ → List LocalReport
reports_of reports g = filter (λ r. r.exhibit.general == g) reports

-- the logs that reports tell
abbrev pub told_logs : List LocalReport → Logs
told_logs reports g = sole_told (reports_of reports g)

-- each report is made under this header
abbrev pub AreUnder : RunHeader → List LocalReport → Type 0
AreUnder header reports = (r : LocalReport) → Contains reports r → r.header ≡ header
