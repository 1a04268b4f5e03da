use Rattle.gen_campaign.proofs.Yes.{all_decide}
use Rattle.gen_campaign.proofs.verdicts.CampaignVerdict.is_yes.Goals as goal

pub returns : goal.returns
returns c = rw (c.all_say_yes.ensures, c.as_slice.ensures.value) (all_decide c.args.self.now.judgements.items)
