use Rattle.gen_types.specs.Ascending.{IsListOf}
use Rattle.gen_plan.specs.Plans.{IsJoinedBy}
use Rattle.gen_plan.proofs.search.joined_to.Given as goal

abbrev pub invariant-loop-edges : goal.invariant-loop-edges
invariant-loop-edges l = IsListOf l.set (λ a. IsJoinedBy l.graph l.faulty l.edges a l.fn.to)
