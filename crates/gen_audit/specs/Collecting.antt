-- Findings of a bundle in groups, as they are collected.
use Rattle.std.specs.Prelude.{ℕ, ◌≡◌, ◌↔◌, ◌⊎◌, zero, suc, List, [], ◌∷◌, ◌++◌, length, Contains}
use Rattle.gen_net.specs.Network.{Network}
use Rattle.gen_walks.specs.Walks.{Bridges, IsLeastBadPair}
use Rattle.gen_log.specs.declared.entries.Entry.{Entry}
use Rattle.gen_log.specs.declared.entries.Entry.TheVariants.{Decide}
use Rattle.gen_local.specs.declared.reading.Reading.TheVariants.{Own}
use Rattle.gen_local.specs.FoundLog.{FoundLog}
use Rattle.gen_local.specs.Report.{LocalReport}
use Rattle.gen_log.specs.Writing.{LogBytes}
use Rattle.gen_scenario.specs.declared.scenario.Decision.{Decision}
use Rattle.gen_match.specs.declared.finding.Finding.{Finding}
use Rattle.gen_match.specs.declared.finding.Finding.TheVariants.{Missing, Several, Unjoined, Nobody}
use Rattle.gen_match.specs.Matching.{Logs, FindsUnmatched, FindsUnderivable}
use Rattle.gen_audit.specs.Bundle.{exhibits_of}
use Rattle.gen_audit.specs.LocalFindings.{finds}

-- the new findings are exactly the old ones and those with the property
abbrev pub AddsFindings : (Finding → Type 0) → List Finding → List Finding → Type 0
AddsFindings P old new = (f : Finding) → Contains new f ↔ (Contains old f ⊎ P f)

-- the finding for a number of exhibits of a general: none for one exhibit, `Missing` for none, `Several` for
-- more
abbrev pub amount_found : ℕ → ℕ → List Finding
amount_found g zero = Missing g ∷ []
amount_found g (suc zero) = []
amount_found g (suc (suc more)) = Several g ∷ []

-- the finding for the number of g's exhibits
abbrev pub shown_found : List LogBytes → ℕ → List Finding
shown_found exhibits g = amount_found g (length (exhibits_of exhibits g))

-- the reading of a report finds this, and the report's general is in the set
abbrev pub FindsIn : List ℕ → LocalReport → Finding → Type 0
FindsIn rest r f = Contains rest r.exhibit.general × Contains (finds r.exhibit.general r.reading) f

-- one of the reports finds this, and its general is in the set
abbrev pub FindsRead : List ℕ → List LocalReport → Finding → Type 0
FindsRead rest reports f = (r : LocalReport) × Contains reports r × FindsIn rest r f

-- this is found between two of the logs, or in what the rest received from the faulty
abbrev pub FindsBetween : Network → List ℕ → Logs → Finding → Type 0
FindsBetween net faulty logs f = FindsUnmatched net faulty logs f ⊎ FindsUnderivable net faulty logs f

-- this is that the set is empty, or that the two generals are the least pair of it that no walk joins
abbrev pub FindsUnjoined : Network → List ℕ → List (List ℕ) → Finding → Type 0
FindsUnjoined net rest walks (Unjoined a c) = IsLeastBadPair net rest (Bridges net rest walks) a c
FindsUnjoined net rest walks Nobody = rest ≡ []
FindsUnjoined net rest walks _ = ⊥

-- the report is of a log that says it is g's of the run; and the decision is that of the log's DECIDE
abbrev pub ReadsAsOwn : LocalReport → ℕ → Type 0
ReadsAsOwn r g = (r.exhibit.general ≡ g) × ((found : FoundLog) × (r.reading ≡ Own found))

abbrev pub DecidesIn : LocalReport → ℕ → Decision → Type 0
DecidesIn r g d =
    (d.general ≡ g) × (r.exhibit.general ≡ g)
    × ((found : FoundLog) × (r.reading ≡ Own found)
    × ((before : List Entry) × (found.log.entries ≡ before ++ Decide d.orders d.order ∷ [])))
