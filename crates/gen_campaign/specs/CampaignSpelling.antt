-- The one spelling in bytes of what is shown of a campaign.
use Rattle.std.specs.Prelude.{ℕ, Bool, true, false, List, [], ◌∷◌, ◌++◌, length}
use Rattle.std.specs.List.{flat_map}
use Rattle.std.specs.Int.{w32, to_be_bytes}
use Rattle.gen_audit.specs.Bundle.{Bundle}
use Rattle.gen_audit.specs.BundleSpelling.{bundle_spelling}
use Rattle.gen_campaign.specs.Campaign.{CampaignBundle}

-- the first four bytes of several runs as a number, big-endian: `SMC2`
abbrev pub campaign_mark : ℕ
campaign_mark = 1397572402

-- the bytes before the bundles: the mark and the number of runs, or nothing before a bundle that stands
-- alone
abbrev pub front_with : Bool → List Bundle → List ℕ
front_with true bundles = []
front_with false bundles = to_be_bytes w32 campaign_mark ++ length bundles ∷ []

abbrev pub campaign_front : CampaignBundle → List ℕ
campaign_front c = front_with c.alone c.bundles

-- these bytes, and then the spelling of each bundle
abbrev pub campaign_spelling : CampaignBundle → List ℕ
campaign_spelling c = campaign_front c ++ flat_map bundle_spelling c.bundles
