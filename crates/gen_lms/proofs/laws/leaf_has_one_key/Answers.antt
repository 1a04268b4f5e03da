use Rattle.gen_lms.proofs.Telling.{leaf_has_one_key}
use Rattle.gen_lms.proofs.laws.leaf_has_one_key.Goals as goal

pub returns : goal.returns
returns c = leaf_has_one_key
