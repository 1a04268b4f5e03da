use Rattle.std.proofs.Common.{arith}
use Rattle.gen_types.specs.Spelled.{Spells}
use Rattle.gen_types.proofs.Laws.{found_by, only_by}
use Rattle.gen_campaign.specs.Campaign.{IsCampaign}
use Rattle.gen_campaign.specs.CampaignReading.{whole_campaign}
use Rattle.gen_campaign.specs.CampaignSpelling.{campaign_spelling}
use Rattle.gen_campaign.proofs.CampaignLaws.{campaign_found, campaign_only}
use Rattle.gen_campaign.proofs.campaign_reading.campaign_of.Goals as goal

pub returns-clause-found : goal.returns-clause-found
returns-clause-found c = found_by (λ x. x) c.campaign_alone.result (whole_campaign c.args.bytes.now) (Spells IsCampaign campaign_spelling c.args.bytes.now) (λ x e. campaign_found c.args.bytes.now x (λ i. omega (arith, c.type_inv.bytes i)) e) c.campaign_alone.ensures

pub returns-clause-only : goal.returns-clause-only
returns-clause-only c = λ b spells. only_by (λ x. x) c.campaign_alone.result (whole_campaign c.args.bytes.now) b (campaign_only c.args.bytes.now b spells) c.campaign_alone.ensures
