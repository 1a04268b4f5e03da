use Rattle.std.proofs.Common.{◌≡◌, Some, sym, subst}
use Rattle.gen_chain.specs.Signings.{triple_of}
use Rattle.gen_chain.specs.Store.{Triple, IsAfter, KeepsAll, Serves, answer_of}
use Rattle.gen_chain.proofs.Storing.{either_way, keeps_after, serves_after}
use Rattle.gen_chain.proofs.store.VerifyStore.add_answer.Goals as goal

pub returns-clause-serves : goal.returns-clause-serves
returns-clause-serves c h serves right =
    let asked : Triple = triple_of c.args.signing.now in
    either_way c.keep_answer.result (IsAfter c.args.self.now asked c.args.answer c.keep_answer.new.self) (c.keep_answer.new.self ≡ c.args.self.now)
    (Serves h c.keep_answer.new.self × KeepsAll c.args.self.now c.keep_answer.new.self) c.keep_answer.ensures.kept c.keep_answer.ensures.err
    (λ after. (serves_after h c.args.self.now c.keep_answer.new.self asked c.args.answer serves right after, keeps_after h c.args.self.now c.keep_answer.new.self asked c.args.answer serves right after))
    (λ same. (subst (Serves h) (sym same) serves, λ t b e. subst (λ s. answer_of s t ≡ Some b) (sym same) e))
