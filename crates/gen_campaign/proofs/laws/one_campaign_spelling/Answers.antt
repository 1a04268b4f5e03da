use Rattle.std.proofs.Common.{refl}
use Rattle.gen_types.proofs.Front.{one_spelling_by}
use Rattle.gen_campaign.specs.Campaign.{IsCampaign}
use Rattle.gen_campaign.specs.CampaignReading.{campaign_at}
use Rattle.gen_campaign.specs.CampaignSpelling.{campaign_spelling}
use Rattle.gen_campaign.proofs.CampaignLaws.{campaigns_read, campaign_only}
use Rattle.gen_campaign.proofs.laws.one_campaign_spelling.Goals as goal

pub returns-clause-one : goal.returns-clause-one
returns-clause-one c = one_spelling_by campaign_at campaign_spelling IsCampaign campaigns_read

pub returns-clause-again : goal.returns-clause-again
returns-clause-again c = λ x is. campaign_only (campaign_spelling x) x (record { fits = is; spelled = refl })
