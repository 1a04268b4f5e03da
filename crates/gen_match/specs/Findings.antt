-- The one order of findings.
use Rattle.std.specs.Prelude.{ℕ, ◌↔◌, List, [], ◌∷◌, Contains, AllPairs}
use Rattle.gen_net.specs.Log.{Precedes}
use Rattle.gen_log.specs.FaultNumbers.{log_fault_numbers}
use Rattle.gen_match.specs.declared.finding.Finding.{Finding}
use Rattle.gen_match.specs.declared.finding.Finding.TheVariants.{Missing, Several, Unreadable, Foreign, Unsigned, Unsealed, Departs, Unmatched, Underivable, Unjoined, Nobody}

-- the rank of a finding: its number, its generals, its entry, round or fault, and its order
abbrev pub finding_rank : Finding → List ℕ
finding_rank (Missing general) = 1 ∷ general ∷ []
finding_rank (Several general) = 2 ∷ general ∷ []
finding_rank (Unreadable general fault) = 3 ∷ general ∷ log_fault_numbers fault
finding_rank (Foreign general) = 4 ∷ general ∷ []
finding_rank (Unsigned general entry) = 5 ∷ general ∷ entry ∷ []
finding_rank (Unsealed general) = 6 ∷ general ∷ []
finding_rank (Departs general entry) = 7 ∷ general ∷ entry ∷ []
finding_rank (Unmatched from to round order) = 8 ∷ from ∷ to ∷ round ∷ order ∷ []
finding_rank (Underivable from to round order) = 9 ∷ from ∷ to ∷ round ∷ order ∷ []
finding_rank (Unjoined first second) = 10 ∷ first ∷ second ∷ []
finding_rank Nobody = 11 ∷ []

-- the findings are exactly those with the property, in their one order, each once
pub record AreFindings (P : Finding → Type 0) (findings : List Finding) : Type 0 where
  pub in_order : AllPairs (λ x y. Precedes (finding_rank x) (finding_rank y)) findings
  pub members : (finding : Finding) → Contains findings finding ↔ P finding
