-- The name of a campaign's fault.
use Rattle.std.specs.Prelude.{ℕ, List, ◌++◌, codes}
use Rattle.std.specs.Fmt.{decimal}
use Rattle.gen_file.specs.FileFaultText.{bundle_fault_name}
use Rattle.gen_campaign.specs.declared.campaign_fault.CampaignFault.{CampaignFault}
use Rattle.gen_campaign.specs.declared.campaign_fault.CampaignFault.TheVariants as campaigns

-- the name of a campaign's fault, which has the place of a run if it is the run's; that of a bundle that
-- stands alone is the bundle's
abbrev pub campaign_fault_name : CampaignFault → List ℕ
campaign_fault_name campaigns.NoCount = codes "M1"
campaign_fault_name campaigns.RunCount = codes "M2"
campaign_fault_name (campaigns.BadRun place fault) =
    codes "M3 run " ++ decimal place ++ codes " " ++ bundle_fault_name fault
campaign_fault_name campaigns.Unjoined = codes "M4"
campaign_fault_name campaigns.LeftOver = codes "M5"
campaign_fault_name (campaigns.Alone fault) = bundle_fault_name fault
