use Rattle.gen_plan.proofs.Sharing.{are_equal_roots}
use Rattle.gen_plan.proofs.laws.equal_roots_are_all.Goals as goal

pub returns : goal.returns
returns c = are_equal_roots
