-- Laws of what convicts a general across runs.
use Rattle.std.specs.Prelude.{map, ℕ, ◌≡◌, ◌≢◌, ◌<◌, ◌↔◌, true, List, ◌∷◌, ◌++◌, Contains, AllPairs}
use Rattle.gen_net.specs.Header.{RunHeader, IsHeader, slot_of}
use Rattle.gen_chain.specs.Leaves.{leaves_per_run, leaf_of_order}
use Rattle.gen_convict.specs.declared.run_texts.RunText.{RunText}
use Rattle.gen_convict.specs.Across.{ShareLeaves, AreRivals, AreAcross, leaf_of, ShownRun, texts_across, IsFirstAcross}
use Rattle.gen_convict.specs.AcrossFinding.{is_rival, RunReports}
use Rattle.gen_convict.specs.Contradictions.{Claim, AcrossRuns}
use Rattle.gen_convict.specs.Evidence.{Accusation, IsEvidence}
use Rattle.gen_convict.specs.Convictions.{AreUnderHeader, IsConvicted, shown_in}
use Rattle.gen_convict.specs.Exhibits.{AllBytes}
use Rattle.gen_convict.specs.SharedLeaves.{share_leaves}

-- the tests are exact: whether two runs use the same leaves, and whether two texts are rivals
abbrev pub TestsSharing : Type 0
TestsSharing = (h k : RunHeader) → (share_leaves h k ≡ true) ↔ ShareLeaves h k

abbrev pub TestsRivals : Type 0
TestsRivals = (x y : RunText) → (is_rival x y ≡ true) ↔ AreRivals x y

-- rivals are signed under one leaf
abbrev pub OneLeaf : Type 0
OneLeaf = (x y : RunText) → AreRivals x y → leaf_of x.header x.text.text ≡ leaf_of y.header y.text.text

-- runs of different slots have no leaf in common
abbrev pub SlotsApart : Type 0
SlotsApart =
    (h k : RunHeader) (m n : ℕ) → m < leaves_per_run → n < leaves_per_run → slot_of h ≢ slot_of k
    → leaf_of_order h m ≢ leaf_of_order k n

-- each header is lawful, and each exhibit consists of bytes
abbrev pub AreLawful : List ShownRun → Type 0
AreLawful runs = (r : ShownRun) → Contains runs r → IsHeader r.header × AllBytes r.exhibits

-- the exhibits of two runs hold two texts of the general that contradict each other across these runs
abbrev pub HoldAcross : List ShownRun → ℕ → Type 0
HoldAcross runs general =
    (x : RunText) × (y : RunText) × Contains (texts_across runs general) x
    × Contains (texts_across runs general) y × AreAcross general x y

-- a first pair of rivals exists if and only if the exhibits hold two texts that contradict each other across
abbrev pub FoundWhereHeld : Type 0
FoundWhereHeld =
    (runs : List ShownRun) (general : ℕ) → AreLawful runs
    → HoldAcross runs general ↔ ((x : RunText) × (y : RunText) × IsFirstAcross runs general x y)

-- the first pair of rivals verifies and contradicts each other across
abbrev pub FirstContradict : Type 0
FirstContradict =
    (runs : List ShownRun) (general : ℕ) (x y : RunText) → AreLawful runs
    → IsFirstAcross runs general x y → AreAcross general x y

-- there is at most one first pair of rivals
abbrev pub OneFirstAcross : Type 0
OneFirstAcross =
    (runs : List ShownRun) (general : ℕ) (x y v w : RunText) → IsFirstAcross runs general x y
    → IsFirstAcross runs general v w → (x ≡ v) × (y ≡ w)

-- the headers of the two texts are those of two of these runs, the first text's run the earlier
pub record AreOfTwoRuns (runs : List ShownRun) (x y : RunText) : Type 0 where
  pub front : List ShownRun
  pub one : ShownRun
  pub between : List ShownRun
  pub other : ShownRun
  pub back : List ShownRun
  pub split : runs ≡ front ++ one ∷ (between ++ other ∷ back)
  pub first : x.header ≡ one.header
  pub second : y.header ≡ other.header

-- the texts of the first pair of rivals are of two of the runs, the first text's run the earlier
abbrev pub FirstOfTwoRuns : Type 0
FirstOfTwoRuns =
    (runs : List ShownRun) (general : ℕ) (x y : RunText) → IsFirstAcross runs general x y
    → AreOfTwoRuns runs x y

-- the claim is by the first pair of the general's rivals
abbrev pub IsFirstClaimAcross : List ShownRun → ℕ → Claim → Type 0
IsFirstClaimAcross runs general claim =
    (x : RunText) × (y : RunText) × (claim ≡ AcrossRuns x y) × IsFirstAcross runs general x y

-- exactly the generals below 16 with a first pair of rivals are accused, each by that pair, in ascending
-- order of generals
pub record AreConvictedAcross (runs : List ShownRun) (convictions : List Accusation) : Type 0 where
  pub in_order : AllPairs (λ x y. x.accused < y.accused) convictions
  pub first : (x : Accusation) → Contains convictions x
      → (x.accused < 16) × IsFirstClaimAcross runs x.accused x.claim
  pub each : (general : ℕ) (x y : RunText) → general < 16 → IsFirstAcross runs general x y
      → Contains convictions (record { accused = general; claim = AcrossRuns x y })

-- a general below 16 is accused if and only if the exhibits of two runs hold two texts of the general that
-- contradict each other across these runs
abbrev pub ConvictsAcrossWhereHeld : List ShownRun → List Accusation → Type 0
ConvictsAcrossWhereHeld runs convictions =
    (general : ℕ) → general < 16 → HoldAcross runs general ↔ IsConvicted convictions general

-- each accusation can be written as evidence, under the header of its first text
abbrev pub AreEvidenceAcross : List Accusation → Type 0
AreEvidenceAcross convictions =
    (x : Accusation) (v w : RunText) → Contains convictions x → x.claim ≡ AcrossRuns v w
    → IsEvidence v.header x

-- the exhibits of a run's reports, with the run's header; and those of each run
abbrev pub shown_run : RunReports → ShownRun
shown_run r = record { header = r.header; exhibits = shown_in r.reports }

abbrev pub shown_runs : List RunReports → List ShownRun
shown_runs runs = map shown_run runs

-- the reports of each run are under its header
abbrev pub AreUnderHeaders : List RunReports → Type 0
AreUnderHeaders runs = (r : RunReports) → Contains runs r → AreUnderHeader r.header r.reports
