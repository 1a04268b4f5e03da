use Rattle.gen_plan.proofs.Joined.{JoinedBelow}
use Rattle.gen_plan.proofs.search.first_apart_from.Given as goal

abbrev pub invariant-loop-number : goal.invariant-loop-number
invariant-loop-number l = JoinedBelow l.graph l.faulty l.fn.most l.fn.a l.number
