use Rattle.gen_chain.specs.Store.{KeepsAll, Serves}
use Rattle.gen_chain.proofs.TakenAnswers.{TakenUpTo}
use Rattle.gen_chain.proofs.store.VerifyStore.take_from.Given as goal

abbrev pub invariant-statements : goal.invariant-statements
invariant-statements l = record {
  serves : Serves l.header l.self;
  other : Serves l.header l.other;
  grows : KeepsAll l.fn.self l.self;
  taken : TakenUpTo l.other l.self l.verified-iterator;
}
