use Rattle.gen_lms.proofs.Telling.{forged_message_gives_away}
use Rattle.gen_lms.proofs.laws.forged_message_gives_the_key_away.Goals as goal

pub returns : goal.returns
returns c = forged_message_gives_away
