-- What the job accuse makes of its input.
use Rattle.std.specs.Prelude.{ℕ, ◌≡◌, ◌<◌, ◌⊎◌, Bool, true, false, List, [], ◌∷◌, ◌++◌, All, Contains}
use Rattle.gen_net.specs.Header.{RunHeader}
use Rattle.gen_audit.specs.Bundle.{Bundle}
use Rattle.gen_campaign.specs.Judged.{shown_bundles}
use Rattle.gen_convict.specs.Across.{IsFirstAcross}
use Rattle.gen_convict.specs.AcrossLaws.{HoldAcross}
use Rattle.gen_convict.specs.declared.run_texts.RunText.{RunText}
use Rattle.gen_convict.specs.Contradictions.{AcrossRuns, Claim}
use Rattle.gen_convict.specs.Evidence.{Accusation}
use Rattle.gen_convict.specs.EvidenceSpelling.{evidence_spelling}
use Rattle.gen_convict.specs.First.{IsFirstClaim}

-- One of the convictions is the general's, and the text is the spelling of its evidence. Otherwise none is,
-- the text is empty, and it says no.
abbrev pub TellsOf : RunHeader → List Accusation → ℕ → List ℕ → Bool → Type 0
TellsOf h convictions general text false =
    (x : Accusation) × Contains convictions x × (x.accused ≡ general) × (text ≡ evidence_spelling h x)
TellsOf h convictions general text true =
    ((x : Accusation) → Contains convictions x → x.accused ≡ general → ⊥) × (text ≡ [])

-- each of these convictions is of a claim across two runs
abbrev pub AreOfRuns : List Accusation → Type 0
AreOfRuns convictions =
    (x : Accusation) → Contains convictions x → (v : RunText) × (w : RunText) × (x.claim ≡ AcrossRuns v w)

-- One of the convictions across runs is the general's, and the text is the spelling of its evidence under its
-- first run's header. Otherwise none is, the text is empty, and it says no.
abbrev pub TellsAcross : List Accusation → ℕ → List ℕ → Bool → Type 0
TellsAcross convictions general text false =
    (v : RunText) × (w : RunText)
    × Contains convictions (record { accused = general; claim = AcrossRuns v w })
    × (text ≡ evidence_spelling v.header (record { accused = general; claim = AcrossRuns v w }))
TellsAcross convictions general text true =
    ((x : Accusation) → Contains convictions x → x.accused ≡ general → ⊥) × (text ≡ [])

-- the general is one of the network, and this is the first claim that the bundle's exhibits hold against it
abbrev pub IsClaimOn : Bundle → ℕ → Claim → Type 0
IsClaimOn bundle general claim =
    (general < bundle.header.network.generals) × IsFirstClaim bundle.header bundle.exhibits general claim

-- The text is evidence of the first claim against the general. Otherwise there is no such claim, the text is
-- empty, and it says no.
abbrev pub Accuses : Bundle → ℕ → List ℕ → Bool → Type 0
Accuses bundle general text false =
    (claim : Claim) × IsClaimOn bundle general claim
    × (text ≡ evidence_spelling bundle.header (record { accused = general; claim = claim }))
Accuses bundle general text true = ((claim : Claim) → IsClaimOn bundle general claim → ⊥) × (text ≡ [])

-- the bundle holds no claim against the general
abbrev pub HoldsNone : ℕ → Bundle → Type 0
HoldsNone general bundle = (claim : Claim) → IsClaimOn bundle general claim → ⊥

-- The text is evidence of the first bundle that holds a claim against the general. Otherwise no bundle holds
-- one, the text is empty, and it says no.
abbrev pub AccusesWithin : List Bundle → ℕ → List ℕ → Bool → Type 0
AccusesWithin bundles general text false =
    (before : List Bundle) × (bundle : Bundle) × (after : List Bundle) × (bundles ≡ before ++ bundle ∷ after)
    × All (HoldsNone general) before × Accuses bundle general text false
AccusesWithin bundles general text true = All (HoldsNone general) bundles × (text ≡ [])

-- The exhibits of two runs hold two texts of the general that contradict each other across these runs, and
-- the text is evidence of the first two such texts. Otherwise the exhibits hold no such two, the text is
-- empty, and it says no.
abbrev pub AccusesAcross : List Bundle → ℕ → List ℕ → Bool → Type 0
AccusesAcross bundles general text false =
    (x : RunText) × (y : RunText) × (general < 16) × IsFirstAcross (shown_bundles bundles) general x y
    × HoldAcross (shown_bundles bundles) general
    × (text ≡ evidence_spelling x.header (record { accused = general; claim = AcrossRuns x y }))
AccusesAcross bundles general text true =
    ((x y : RunText) → general < 16 → IsFirstAcross (shown_bundles bundles) general x y → ⊥)
    × (general < 16 → HoldAcross (shown_bundles bundles) general → ⊥) × (text ≡ [])

-- the text is evidence within a run, if any run holds a claim against the general; else evidence across runs
abbrev pub AccusesRuns : List Bundle → ℕ → List ℕ → Bool → Type 0
AccusesRuns bundles general text negative =
    AccusesWithin bundles general text false × (negative ≡ false)
    ⊎ (All (HoldsNone general) bundles × AccusesAcross bundles general text negative)
