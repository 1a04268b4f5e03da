use Rattle.std.proofs.Common.{arith, refl}
use Rattle.gen_chain.specs.Store.{answer_of, kept_count}
use Rattle.gen_chain.proofs.store.VerifyStore.new.Goals as goal

pub invariant_of-result : goal.invariant_of-result
unfolding kept_count
invariant_of-result c = rw c.new.ensures.empty (record { count = refl; once = λ verified i j d before below. absurd (omega (arith, below)) })

pub returns-clause-count : goal.returns-clause-count
unfolding kept_count
returns-clause-count c = rw c.new.ensures.empty refl

pub returns-clause-empty : goal.returns-clause-empty
unfolding answer_of
returns-clause-empty c = λ triple. rw c.new.ensures.empty refl

pub returns-clause-serves : goal.returns-clause-serves
unfolding answer_of
returns-clause-serves c = λ h triple answer e. let no = rw c.new.ensures.empty at e in absurd cc
