use Rattle.gen_types.specs.Ascending.{IsListOf}
use Rattle.gen_plan.proofs.Joined.{StepsBelow}
use Rattle.gen_plan.proofs.search.spread.Given as goal

abbrev pub invariant-loop-number : goal.invariant-loop-number
invariant-loop-number l = IsListOf l.steps (StepsBelow l.graph l.faulty l.set l.number)
