use Rattle.gen_combine.proofs.Rules.{is_one}
use Rattle.gen_combine.proofs.laws.combined_is_one.Goals as goal

pub returns : goal.returns
returns c = is_one
