-- The judgements on the runs of a campaign, and the convictions across them.
use Rattle.std.specs.Prelude.{◌≡◌, ◌≢◌, Bool, true, false, List, [], map, All, AllPairs}
use Rattle.std.specs.List.{AllZip}
use Rattle.gen_net.specs.Header.{slot_of}
use Rattle.gen_convict.specs.Across.{ShownRun}
use Rattle.gen_convict.specs.AcrossLaws.{AreConvictedAcross}
use Rattle.gen_convict.specs.Convictions.{AreConvictions, AreEvidence, ConvictsWhereHeld}
use Rattle.gen_convict.specs.Evidence.{Accusation, told_of}
use Rattle.gen_audit.specs.declared.verdicts.Judgement.{Judgement}
use Rattle.gen_audit.specs.declared.verdicts.Verdict.{Verdict}
use Rattle.gen_audit.specs.declared.verdicts.Verdict.TheVariants.{Agreed, Explained, No}
use Rattle.gen_audit.specs.Bundle.{Bundle}
use Rattle.gen_audit.specs.Headline.{Headline, IsYes}
use Rattle.gen_audit.specs.Verdict.{IsVerdict}

-- The judgement is that of the bundle, as the audit of a bundle has it: the verdict with what a yes means,
-- and the convictions by its exhibits.
pub record IsJudged (b : Bundle) (j : Judgement) : Type 0 where
  pub verdict : IsVerdict b j.verdict
  pub headline : Headline b j.verdict
  pub convictions : AreConvictions b.header b.exhibits (map told_of j.convictions.items)
  pub held : ConvictsWhereHeld b.header b.exhibits (map told_of j.convictions.items)
  pub lawful : AreEvidence b.header (map told_of j.convictions.items)

-- there is one judgement for each bundle, in the order of the bundles, and it is that of the bundle
abbrev pub AreJudged : List Bundle → List Judgement → Type 0
AreJudged bundles judgements = AllZip IsJudged bundles judgements

-- what a bundle shows of its run: the header and the exhibits
abbrev pub shown_bundle : Bundle → ShownRun
shown_bundle b = record { header = b.header; exhibits = b.exhibits }

abbrev pub shown_bundles : List Bundle → List ShownRun
shown_bundles bundles = map shown_bundle bundles

-- the test whether a verdict is a yes
abbrev pub says_yes : Verdict → Bool
says_yes (Agreed order) = true
says_yes (Explained decisions) = true
says_yes (No findings) = false

-- the verdict of each judgement is a yes
abbrev pub AreYes : List Judgement → Type 0
AreYes judgements = All (λ j. IsYes j.verdict) judgements

-- the slots of two runs differ
abbrev pub HaveOtherSlots : ShownRun → ShownRun → Type 0
HaveOtherSlots one other = slot_of one.header ≢ slot_of other.header

-- if the slots of each two runs differ, nobody is convicted across runs
abbrev pub OtherSlotsConvictNobody : Type 0
OtherSlotsConvictNobody =
    (runs : List ShownRun) (convictions : List Accusation) → AllPairs HaveOtherSlots runs
    → AreConvictedAcross runs convictions → convictions ≡ []
