use Rattle.gen_plan.proofs.Cuts.{NoneUpTo}
use Rattle.gen_plan.proofs.plans.least_diameter.Given as goal

abbrev pub invariant-loop-more : goal.invariant-loop-more
invariant-loop-more l = NoneUpTo l.graph l.fn.traitors l.more
