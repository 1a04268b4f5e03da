use Rattle.gen_campaign.proofs.OtherSlots.{nobody_across}
use Rattle.gen_campaign.proofs.laws.other_slots_convict_nobody.Goals as goal

pub returns : goal.returns
returns c = nobody_across c.first_rivals.ensures.runs
