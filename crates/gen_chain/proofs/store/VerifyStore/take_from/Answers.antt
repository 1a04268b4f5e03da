use Rattle.gen_chain.proofs.TakenAnswers.{entry_taken, taken_whole}
use Rattle.gen_chain.proofs.store.VerifyStore.take_from.Goals as goal

pub returns-clause-taken : goal.returns-clause-taken
returns-clause-taken c = taken_whole c.args.other.now c.statements.self c.statements.verified-iterator c.in-None.ensures.steps.0 c.statements.invariant.taken

pub statements-preserved : goal.statements-preserved
statements-preserved c = record {
  serves = c.in_ok-take_answers.ensures.serves;
  other = c.statements.invariant.other;
  grows = λ t answer e. c.in_ok-take_answers.ensures.grows t answer (c.statements.invariant.grows t answer e);
  taken = entry_taken c.args.other.now c.statements.self c.take_answers.new.self c.statements.verified-iterator c.next.new.self (c.in-Some.verified.now, c.in-Some.signatures.now) c.in_ok-take_answers.ensures.grows c.in-Some.ensures.steps (rw c.as_slice.ensures.value at c.in_ok-take_answers.ensures.taken) c.statements.invariant.taken;
}
