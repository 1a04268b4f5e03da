use Rattle.gen_lms.proofs.Telling.{other_hash_gives_away}
use Rattle.gen_lms.proofs.laws.other_hash_gives_the_key_away.Goals as goal

pub returns : goal.returns
returns c = other_hash_gives_away
