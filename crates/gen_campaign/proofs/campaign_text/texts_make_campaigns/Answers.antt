use Rattle.gen_campaign.proofs.Makes.{makes}
use Rattle.gen_campaign.proofs.campaign_text.texts_make_campaigns.Goals as goal

pub returns : goal.returns
returns c = λ text runs spells. makes runs spells.lawful
