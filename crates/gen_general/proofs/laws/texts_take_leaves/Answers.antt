use Rattle.gen_general.proofs.Spending.{signs_take_leaves, followers_sign_once}
use Rattle.gen_general.proofs.laws.texts_take_leaves.Goals as goal

pub returns : goal.returns
returns c = record { round = signs_take_leaves; once = followers_sign_once }
