use Rattle.gen_campaign.proofs.CampaignLaws.{one_bundle_as_before}
use Rattle.gen_campaign.proofs.laws.one_bundle_is_as_before.Goals as goal

pub returns : goal.returns
returns c = one_bundle_as_before
