use Rattle.gen_plan.proofs.Cuts.{StandBelow}
use Rattle.gen_plan.proofs.plans.first_of_size.Given as goal

abbrev pub invariant-loop-bits : goal.invariant-loop-bits
invariant-loop-bits l = StandBelow l.graph l.fn.count l.fn.diameter l.bits
