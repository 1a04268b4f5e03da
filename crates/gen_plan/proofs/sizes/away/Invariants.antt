use Rattle.gen_plan.specs.Sizes.{IsFarAway}
use Rattle.gen_plan.proofs.sizes.away.Given as goal

abbrev pub invariant-loop-edges : goal.invariant-loop-edges
invariant-loop-edges l = IsFarAway l.graph l.edges l.fn.general
