use Rattle.gen_combine.proofs.Rules.{each_is}
use Rattle.gen_combine.proofs.laws.all_is_of_each.Goals as goal

pub returns : goal.returns
returns c = each_is
