use Rattle.std.proofs.Common.{sym, subst, ◌∙◌}
use Rattle.gen_chain.specs.Store.{Triple, Serves}
use Rattle.gen_chain.proofs.Storing.{serves_after, keeps_after}
use Rattle.gen_chain.proofs.store.VerifyStore.check.Goals as goal

pub returns-in-Some-clause-answer : goal.returns-in-Some-clause-answer
returns-in-Some-clause-answer c = c.requires.serves _ _ (sym c.answer_of.ensures ∙ c.in-Some.is)

pub returns-clause-serves : goal.returns-clause-serves
returns-clause-serves c =
    let asked : Triple = record { signer = c.args.signer; statement = c.args.statement.now; signature = c.args.signature.now } in
    serves_after c.args.header.now c.args.self.now _ asked c.has_signed-answer.result c.requires.serves c.has_signed-answer.ensures c.in_ok-keep_answer.ensures.kept

pub returns-clause-grows : goal.returns-clause-grows
returns-clause-grows c =
    let asked : Triple = record { signer = c.args.signer; statement = c.args.statement.now; signature = c.args.signature.now } in
    keeps_after c.args.header.now c.args.self.now _ asked c.has_signed-answer.result c.requires.serves c.has_signed-answer.ensures c.in_ok-keep_answer.ensures.kept

pub returns-in_err-keep_answer-clause-serves : goal.returns-in_err-keep_answer-clause-serves
returns-in_err-keep_answer-clause-serves c = subst (Serves c.args.header.now) (sym c.in_err-keep_answer.ensures.err) c.requires.serves
