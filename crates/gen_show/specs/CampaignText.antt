-- What is shown of a campaign, as lines.
use Rattle.std.specs.Prelude.{ℕ, List, [], ◌∷◌, ◌++◌, codes, length, if◌then◌else◌}
use Rattle.std.specs.Fmt.{decimal}
use Rattle.gen_audit.specs.Bundle.{Bundle}
use Rattle.gen_campaign.specs.Campaign.{CampaignBundle}
use Rattle.gen_campaign.specs.CampaignParts.{campaign_front_length}
use Rattle.gen_show.specs.BundleText.{bundle_lines, run_lines}

-- the first line of several runs: the name of the format, its version, and the number of runs
unfoldable pub campaign_line : ℕ → List ℕ
campaign_line count = codes "format campaign version 2 runs " ++ decimal count ++ codes "\n"

-- the lines of several runs
abbrev pub several_lines : List Bundle → List ℕ
several_lines bundles =
    campaign_line (length bundles) ++ run_lines 0 campaign_front_length bundles ++ codes "end campaign\n"

-- the lines of a bundle that stands alone
abbrev pub alone_lines : List Bundle → List ℕ
alone_lines [] = []
alone_lines (b ∷ bs) = bundle_lines 0 b

-- the lines of what is shown of a campaign
abbrev pub campaign_lines : CampaignBundle → List ℕ
campaign_lines c = if c.alone then alone_lines c.bundles else several_lines c.bundles
