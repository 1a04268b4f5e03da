use Rattle.gen_lms.proofs.Telling.{forgery_gives_away}
use Rattle.gen_lms.proofs.laws.forgery_gives_the_key_away.Goals as goal

pub returns : goal.returns
returns c = forgery_gives_away
