use Rattle.gen_audit.proofs.Sorted.{OnceSoFar}
use Rattle.gen_audit.proofs.sorting.in_order.Given as goal

abbrev pub invariant-loop-finding : goal.invariant-loop-finding
invariant-loop-finding l = OnceSoFar l.finding-items l.finding-index l.once.items
