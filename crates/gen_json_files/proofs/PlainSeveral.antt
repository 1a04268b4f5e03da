-- What is shown of several runs has no floats.
use Rattle.std.proofs.Common.{◌≡◌, ℕ, false, refl}
use Rattle.serde_json.specs.Written.{has_float}
use Rattle.gen_json_files.specs.CampaignLines.{campaign_data}

pub campaign_plain : (count : ℕ) → has_float (campaign_data count) ≡ false
campaign_plain count = unfold campaign_data in refl
