use Rattle.gen_plan.proofs.LeastParted.{none_is_diameter, some_is_least}
use Rattle.gen_plan.proofs.laws.parted_pairs_are_least.Goals as goal

pub returns-clause-least : goal.returns-clause-least
returns-clause-least c = some_is_least

pub returns-clause-none : goal.returns-clause-none
returns-clause-none c = none_is_diameter
