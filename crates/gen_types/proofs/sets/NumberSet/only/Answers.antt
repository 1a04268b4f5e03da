use Rattle.gen_types.proofs.Lists.{only_one}
use Rattle.gen_types.proofs.sets.NumberSet.only.Goals as goal

pub returns : goal.returns
returns g c = only_one c.insert.new.self c.args.member (rw c.new-set.ensures at c.insert.ensures.members)
