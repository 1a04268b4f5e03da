use Rattle.gen_combine.proofs.Rules.{median_inside}
use Rattle.gen_combine.proofs.laws.medians_stay_inside.Goals as goal

pub returns : goal.returns
returns c = median_inside
