use Rattle.gen_campaign.proofs.Joined.{joins_decide}
use Rattle.gen_campaign.proofs.laws.joins_is_tested.Goals as goal

pub returns : goal.returns
returns c = joins_decide
