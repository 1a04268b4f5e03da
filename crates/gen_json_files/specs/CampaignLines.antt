-- What is shown of a campaign, as lines of JSON.
use Rattle.std.specs.Prelude.{ℕ, List, [], ◌∷◌, ◌++◌, codes, length, if◌then◌else◌}
use Rattle.serde_json.specs.Data.{Data, string}
use Rattle.gen_audit.specs.Bundle.{Bundle}
use Rattle.gen_campaign.specs.Campaign.{CampaignBundle}
use Rattle.gen_campaign.specs.CampaignParts.{campaign_front_length}
use Rattle.gen_json.specs.JsonData.{fields, json_version, whole}
use Rattle.gen_json.specs.Line.{json_line}
use Rattle.gen_json_parts.specs.BundleData.{bundle_lines, end_data, run_lines}

-- several runs: the version of their format, and their number
unfoldable pub campaign_data : ℕ → Data
campaign_data count = fields (
    (codes "format", string (codes "shown campaign"))
    ∷ (codes "run_version", whole 2)
    ∷ (codes "runs", whole count)
    ∷ (codes "version", whole json_version)
    ∷ [])

-- the lines of several runs
unfoldable pub several_lines : List Bundle → List ℕ
several_lines bundles =
    json_line (campaign_data (length bundles))
    ++ (run_lines 0 campaign_front_length bundles ++ json_line (end_data (codes "shown campaign end")))

-- the lines of a bundle that stands alone
abbrev pub alone_lines : List Bundle → List ℕ
alone_lines [] = []
alone_lines (b ∷ bs) = bundle_lines 0 b

-- the lines of what is shown of a campaign
abbrev pub campaign_lines : CampaignBundle → List ℕ
campaign_lines c = if c.alone then alone_lines c.bundles else several_lines c.bundles
