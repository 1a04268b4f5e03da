-- Findings as JSON.
use Rattle.std.specs.Prelude.{ℕ, List, [], ◌∷◌, codes, Option, Some, None}
use Rattle.serde_json.specs.Data.{Data, string}
use Rattle.gen_match.specs.declared.finding.Finding.{Finding}
use Rattle.gen_match.specs.declared.finding.Finding.TheVariants.{Missing, Several, Unreadable, Foreign, Unsigned, Unsealed, Departs, Unmatched, Underivable, Unjoined, Nobody}
use Rattle.gen_file.specs.FaultText.{log_fault_name}
use Rattle.gen_json.specs.JsonData.{whole, fields}

-- a finding about a general
abbrev pub about_general : List ℕ → ℕ → Data
about_general id general = fields ((codes "general", whole general) ∷ (codes "id", string id) ∷ [])

-- a finding about an entry of a general's log
abbrev pub about_entry : List ℕ → ℕ → ℕ → Data
about_entry id general entry =
    fields ((codes "entry", whole entry) ∷ (codes "general", whole general) ∷ (codes "id", string id) ∷ [])

-- a finding about a general, or about an entry of its log
abbrev pub about : List ℕ → ℕ → Option ℕ → Data
about id general None = about_general id general
about id general (Some entry) = about_entry id general entry

-- a finding about a message
abbrev pub about_message : List ℕ → ℕ → ℕ → ℕ → ℕ → Data
about_message id from to round order = fields (
    (codes "from", whole from) ∷ (codes "id", string id) ∷ (codes "order", whole order)
    ∷ (codes "round", whole round) ∷ (codes "to", whole to) ∷ [])

-- a finding: its number, such as `N8`, and what it is about
abbrev pub finding_data : Finding → Data
finding_data (Missing general) = about_general (codes "N1") general
finding_data (Several general) = about_general (codes "N2") general
finding_data (Unreadable general fault) = fields (
    (codes "fault", string (log_fault_name fault)) ∷ (codes "general", whole general)
    ∷ (codes "id", string (codes "N3")) ∷ [])
finding_data (Foreign general) = about_general (codes "N4") general
finding_data (Unsigned general entry) = about_entry (codes "N5") general entry
finding_data (Unsealed general) = about_general (codes "N6") general
finding_data (Departs general entry) = about_entry (codes "N7") general entry
finding_data (Unmatched from to round order) = about_message (codes "N8") from to round order
finding_data (Underivable from to round order) = about_message (codes "N9") from to round order
finding_data (Unjoined first second) = fields (
    (codes "first", whole first) ∷ (codes "id", string (codes "N10")) ∷ (codes "second", whole second)
    ∷ [])
finding_data Nobody = fields ((codes "id", string (codes "N11")) ∷ [])
