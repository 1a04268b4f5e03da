use Rattle.gen_plan.proofs.Sharing.{no_pairs}
use Rattle.gen_plan.proofs.laws.own_roots_are_no_pairs.Goals as goal

pub returns : goal.returns
returns c = no_pairs
