use Rattle.gen_plan.proofs.Cuts.{SmallerStand}
use Rattle.gen_plan.proofs.plans.first_cut.Given as goal

abbrev pub invariant-loop-count : goal.invariant-loop-count
invariant-loop-count l = SmallerStand l.graph l.count l.fn.diameter
