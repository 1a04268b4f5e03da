-- The convictions that exhibits give: for each general the first claim, if there is one.
use Rattle.std.specs.Prelude.{ℕ, ◌≡◌, ◌<◌, ◌^◌, ◌↔◌, List, length, map, Contains, AllPairs}
use Rattle.gen_net.specs.Header.{RunHeader}
use Rattle.gen_local.specs.Report.{LocalReport}
use Rattle.gen_log.specs.Writing.{LogBytes}
use Rattle.gen_convict.specs.Contradictions.{Claim}
use Rattle.gen_convict.specs.Evidence.{Accusation, IsEvidence}
use Rattle.gen_convict.specs.First.{IsFirstClaim}
use Rattle.gen_convict.specs.Held.{HoldContradiction}

-- exactly the generals of the network with a first claim are accused, each by that claim, in ascending order
-- of generals
pub record AreConvictions (h : RunHeader) (exhibits : List LogBytes) (convictions : List Accusation) :
    Type 0 where
  pub in_order : AllPairs (λ x y. x.accused < y.accused) convictions
  pub first : (x : Accusation) → Contains convictions x
      → (x.accused < h.network.generals) × IsFirstClaim h exhibits x.accused x.claim
  pub each : (general : ℕ) (claim : Claim) → general < h.network.generals
      → IsFirstClaim h exhibits general claim
      → Contains convictions (record { accused = general; claim = claim })

-- one of the convictions is the general's
abbrev pub IsConvicted : List Accusation → ℕ → Type 0
IsConvicted convictions general = (x : Accusation) × Contains convictions x × (x.accused ≡ general)

-- a general of the network is convicted if and only if the exhibits hold a contradiction of the general
abbrev pub ConvictsWhereHeld : RunHeader → List LogBytes → List Accusation → Type 0
ConvictsWhereHeld h exhibits convictions =
    (general : ℕ) → general < h.network.generals
    → HoldContradiction h exhibits general ↔ IsConvicted convictions general

-- the exhibits of these reports
abbrev pub shown_in : List LocalReport → List LogBytes
shown_in reports = map (λ r. r.exhibit) reports

-- the reports are under this header
abbrev pub AreUnderHeader : RunHeader → List LocalReport → Type 0
AreUnderHeader h reports = (r : LocalReport) → Contains reports r → r.header ≡ h

-- each accusation is the first claim against its general
abbrev pub AreFirst : RunHeader → List LogBytes → List Accusation → Type 0
AreFirst h exhibits convictions =
    (x : Accusation) → Contains convictions x → IsFirstClaim h exhibits x.accused x.claim

-- each exhibit has fewer than 2^32 bytes
abbrev pub AreShort : List LogBytes → Type 0
AreShort exhibits = (x : LogBytes) → Contains exhibits x → length x.bytes < 2 ^ 32

-- each accusation can be written as evidence
abbrev pub AreEvidence : RunHeader → List Accusation → Type 0
AreEvidence h convictions = (x : Accusation) → Contains convictions x → IsEvidence h x
