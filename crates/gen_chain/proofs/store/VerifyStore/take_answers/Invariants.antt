use Rattle.gen_chain.specs.Store.{KeepsAll, Serves}
use Rattle.gen_chain.proofs.TakenAnswers.{TakesFirst}
use Rattle.gen_chain.proofs.store.VerifyStore.take_answers.Given as goal

abbrev pub invariant-signatures : goal.invariant-signatures
invariant-signatures l = record {
  serves : Serves l.header l.self;
  other : Serves l.header l.other;
  grows : KeepsAll l.fn.self l.self;
  taken : TakesFirst l.other l.self l.verified l.signatures l.kept-index;
}
