use Rattle.gen_combine.proofs.Rules.{majority_is}
use Rattle.gen_combine.proofs.laws.majorities_stay.Goals as goal

pub returns : goal.returns
returns c = majority_is
