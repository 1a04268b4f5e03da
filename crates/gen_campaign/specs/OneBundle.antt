-- A bundle that stands alone is read as `read_bundle` of gen_audit reads it.
use Rattle.std.specs.Prelude.{ℕ, ◌≡◌, true, false, List, [], ◌∷◌, Result}
use Rattle.gen_types.specs.Reading.{◌>>=◌, map_fault}
use Rattle.gen_audit.specs.Bundle.{Bundle}
use Rattle.gen_audit.specs.BundleReading.{whole_bundle}
use Rattle.gen_campaign.specs.declared.campaign_fault.CampaignFault.{CampaignFault}
use Rattle.gen_campaign.specs.declared.campaign_fault.CampaignFault.TheVariants as faults
use Rattle.gen_campaign.specs.Campaign.{CampaignBundle}
use Rattle.gen_campaign.specs.CampaignReading.{is_marked, whole_campaign}
use Rattle.std.specs.Prelude.{Ok}

-- what a bundle that stands alone shows of a campaign
abbrev pub shown_alone : Bundle → Result CampaignBundle CampaignFault
shown_alone b = Ok (record { alone = true; bundles = b ∷ [] })

-- bytes without the mark of several runs are read as a bundle, with the faults of a bundle
abbrev pub OneBundleAsBefore : Type 0
OneBundleAsBefore =
    (bytes : List ℕ) → is_marked bytes ≡ false
    → whole_campaign bytes ≡ (map_fault faults.Alone (whole_bundle bytes) >>= shown_alone)
