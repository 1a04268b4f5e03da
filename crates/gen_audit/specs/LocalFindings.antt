-- The findings against single logs are those of the reports of the exhibits.
use Rattle.std.specs.Prelude.{ℕ, ◌↔◌, Bool, true, false, List, [], ◌∷◌, ◌++◌, Contains, Option, Some, None}
use Rattle.gen_local.specs.declared.reading.Reading.{Reading}
use Rattle.gen_local.specs.declared.reading.Reading.TheVariants as readings
use Rattle.gen_local.specs.Report.{LocalReport}
use Rattle.gen_match.specs.declared.finding.Finding.{Finding}
use Rattle.gen_match.specs.declared.finding.Finding.TheVariants.{Unreadable, Foreign, Unsigned, Unsealed, Departs}
use Rattle.gen_audit.specs.Bundle.{Bundle, IsOfRest}
use Rattle.gen_audit.specs.Findings.{IsFinding}
use Rattle.gen_audit.specs.Telling.{AreReports}

-- ---- what the reading of a general's exhibit finds, in the order of findings

abbrev pub unsigned_at : ℕ → Option ℕ → List Finding
unsigned_at g None = []
unsigned_at g (Some p) = Unsigned g p ∷ []

abbrev pub unless_sealed : ℕ → Bool → List Finding
unless_sealed g true = []
unless_sealed g false = Unsealed g ∷ []

abbrev pub departs_at : ℕ → Option ℕ → List Finding
departs_at g None = []
departs_at g (Some p) = Departs g p ∷ []

abbrev pub finds : ℕ → Reading → List Finding
finds g (readings.Unreadable fault) = Unreadable g fault ∷ []
finds g readings.Foreign = Foreign g ∷ []
finds g (readings.Own found) =
    unsigned_at g found.unsigned ++ (unless_sealed g found.sealed ++ departs_at g found.departure)

-- ---- the law

-- the finding is against one log alone
abbrev pub IsLocal : Finding → Type 0
IsLocal (Unreadable g fault) = Unit {0}
IsLocal (Foreign g) = Unit {0}
IsLocal (Unsigned g p) = Unit {0}
IsLocal (Unsealed g) = Unit {0}
IsLocal (Departs g p) = Unit {0}
IsLocal _ = ⊥

-- the report of an exhibit finds this, and the exhibit's general is of the rest
abbrev pub IsReported : Bundle → List LocalReport → Finding → Type 0
IsReported b reports finding =
    (r : LocalReport) × Contains reports r × IsOfRest b r.exhibit.general
    × Contains (finds r.exhibit.general r.reading) finding

-- the findings against single logs are exactly those of the reports of the rest's exhibits
abbrev pub ReportsFindLocal : Type 0
ReportsFindLocal =
    (b : Bundle) (reports : List LocalReport) → AreReports b reports → (finding : Finding) → IsLocal finding
    → IsFinding b finding ↔ IsReported b reports finding
