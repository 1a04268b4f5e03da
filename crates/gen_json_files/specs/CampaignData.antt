-- The verdict on a campaign as JSON.
use Rattle.std.specs.Prelude.{ℕ, List, [], ◌∷◌, map, codes, if◌then◌else◌, Option, Some, None}
use Rattle.serde_json.specs.Data.{Data, Members, array, null, object, string}
use Rattle.serde_json.specs.View.{items_of}
use Rattle.gen_convict.specs.Contradictions.{Claim, AcrossRuns}
use Rattle.gen_convict.specs.Evidence.{Accusation, told_of}
use Rattle.gen_audit.specs.Bundle.{Bundle}
use Rattle.gen_audit.specs.declared.verdicts.Judgement.{Judgement}
use Rattle.gen_campaign.specs.Campaign.{CampaignBundle}
use Rattle.gen_campaign.specs.CampaignPlaces.{place_of}
use Rattle.gen_json.specs.ConvictionData.{conviction_data}
use Rattle.gen_json.specs.JsonData.{whole, list_of, fields, json_version, members}
use Rattle.gen_json.specs.OriginData.{Origin, with_origin}
use Rattle.gen_json_parts.specs.VerdictData.{judgement_data}

-- the judgement on a bundle, with where the answer comes from, if that is told
abbrev pub run_data : Option Origin → Bundle → Judgement → Data
run_data origin b j = judgement_data origin b j.verdict (map told_of j.convictions.items)

-- the judgements, run by run; a run without a judgement has none
abbrev pub runs_data : List Bundle → List Judgement → List Data
runs_data [] judgements = []
runs_data (b ∷ bundles) [] = []
runs_data (b ∷ bundles) (j ∷ judgements) = run_data None b j ∷ runs_data bundles judgements

-- a conviction across two runs, which are named by their places; or evidence of one run alone, which is named
-- by its kind
abbrev pub across_data_of : List Bundle → ℕ → Claim → Data
across_data_of bundles accused (AcrossRuns x y) = fields (
    (codes "first", whole (place_of bundles x.header)) ∷ (codes "general", whole accused)
    ∷ (codes "id", string (codes "K1")) ∷ (codes "second", whole (place_of bundles y.header)) ∷ [])
across_data_of bundles accused claim = conviction_data (record { accused = accused; claim = claim })

abbrev pub across_data : List Bundle → Accusation → Data
across_data bundles e = across_data_of bundles e.accused e.claim

-- the fields of the verdict on several runs: the convictions across two, and the judgements
abbrev pub several_members : List Bundle → List Judgement → List Accusation → Members
several_members bundles judgements across = members (
    (codes "across", list_of (across_data bundles) across)
    ∷ (codes "format", string (codes "campaign verdict"))
    ∷ (codes "runs", array (items_of (runs_data bundles judgements)))
    ∷ (codes "version", whole json_version)
    ∷ [])

-- the verdict on several runs, with where the answer comes from
abbrev pub several_data : Origin → List Bundle → List Judgement → List Accusation → Data
several_data origin bundles judgements across =
    object (with_origin origin (several_members bundles judgements across))

-- the judgement on the first run, with where the answer comes from; null if there is none
abbrev pub alone_data : Origin → List Bundle → List Judgement → Data
alone_data origin [] judgements = null
alone_data origin (b ∷ bundles) [] = null
alone_data origin (b ∷ bundles) (j ∷ judgements) = run_data (Some origin) b j

-- the verdict on what is shown of a campaign, with where the answer comes from: that of several runs, or of a
-- bundle that stands alone the judgement on it
abbrev pub campaign_data : Origin → CampaignBundle → List Judgement → List Accusation → Data
campaign_data origin c judgements across =
    if c.alone then alone_data origin c.bundles judgements
    else several_data origin c.bundles judgements across
