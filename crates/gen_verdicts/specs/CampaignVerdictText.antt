-- The text of the verdicts on all runs of a campaign, and of the convictions across two of them.
use Rattle.std.specs.Prelude.{◌≡◌, ℕ, true, List, [], ◌∷◌, ◌++◌, length, map, codes, if◌then◌else◌}
use Rattle.std.specs.List.{flat_map}
use Rattle.std.specs.Fmt.{decimal}
use Rattle.gen_convict.specs.Contradictions.{Claim, AcrossRuns}
use Rattle.gen_convict.specs.Evidence.{Accusation, told_of}
use Rattle.gen_audit.specs.Bundle.{Bundle}
use Rattle.gen_audit.specs.declared.verdicts.Judgement.{Judgement}
use Rattle.gen_campaign.specs.Campaign.{CampaignBundle}
use Rattle.gen_campaign.specs.CampaignPlaces.{place_of}
use Rattle.gen_report.specs.VerdictText.{convicted_line, verdict_text}

-- the texts of the verdicts, run by run; a run without a judgement has none
abbrev pub verdict_texts : List Bundle → List Judgement → List ℕ
verdict_texts [] judgements = []
verdict_texts (b ∷ bundles) [] = []
verdict_texts (b ∷ bundles) (j ∷ judgements) =
    verdict_text b.header j.verdict (map told_of j.convictions.items) ++ verdict_texts bundles judgements

-- the end of a line of a conviction, which names two runs by their places
abbrev pub places_named : ℕ → ℕ → List ℕ
places_named first second =
    codes " by K1 across " ++ decimal first ++ codes " " ++ decimal second ++ codes "\n"

-- the line of a conviction across two runs, or of evidence of one run alone, which is named by its kind
abbrev pub across_line_of : List Bundle → ℕ → Claim → List ℕ
across_line_of bundles accused (AcrossRuns x y) =
    codes "convicted " ++ decimal accused
    ++ places_named (place_of bundles x.header) (place_of bundles y.header)
across_line_of bundles accused claim = convicted_line (record { accused = accused; claim = claim })

abbrev pub across_line : List Bundle → Accusation → List ℕ
across_line bundles e = across_line_of bundles e.accused e.claim

-- the text of several runs: their number, the verdicts on them, the convictions across two of them, and an
-- end
abbrev pub several_text : List Bundle → List Judgement → List Accusation → List ℕ
several_text bundles judgements across =
    codes "campaign " ++ decimal (length bundles) ++ codes "\n" ++ verdict_texts bundles judgements
    ++ flat_map (across_line bundles) across ++ codes "end campaign\n"

-- the text of the verdict on what is shown of a campaign: that of several runs, or of a bundle that stands
-- alone the text of its verdict
abbrev pub campaign_text : CampaignBundle → List Judgement → List Accusation → List ℕ
campaign_text c judgements across =
    if c.alone then verdict_texts c.bundles judgements else several_text c.bundles judgements across

-- the text of the verdict on a bundle that stands alone is that of its judgement
abbrev pub OneBundleAsPrinted : Type 0
OneBundleAsPrinted =
    (b : Bundle) (j : Judgement) (across : List Accusation)
    → campaign_text (record { alone = true; bundles = b ∷ [] }) (j ∷ []) across
    ≡ verdict_text b.header j.verdict (map told_of j.convictions.items)
