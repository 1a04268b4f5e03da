use Rattle.gen_plan.proofs.Joined.{RowsBelow}
use Rattle.gen_plan.proofs.search.first_apart.Given as goal

abbrev pub invariant-loop-number : goal.invariant-loop-number
invariant-loop-number l = RowsBelow l.graph l.faulty l.fn.most l.number
