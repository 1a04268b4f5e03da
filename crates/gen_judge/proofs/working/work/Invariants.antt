use Rattle.gen_chain.specs.Store.{Serves}
use Rattle.gen_judge.proofs.working.work.Given as goal

abbrev pub invariant-loop : goal.invariant-loop
invariant-loop g l = (goal.iterator-loop g).can_next l.iterator' × (goal.iterator-loop g).is_finite l.iterator' × Serves l.header l.store
