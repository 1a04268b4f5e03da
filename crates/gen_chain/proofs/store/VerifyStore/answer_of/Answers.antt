use Rattle.std.proofs.Common.{◌∙◌, sym, ap, Some, None}
use Rattle.gen_chain.specs.Store.{answer_in, answer_of}
use Rattle.gen_chain.proofs.KeptAnswers.{kept_get}
use Rattle.gen_chain.proofs.store.VerifyStore.answer_of.Goals as goal

pub returns-in-Some : goal.returns-in-Some
unfolding answer_of
returns-in-Some c = rw (← c.self.view_is) (c.answer_in.ensures ∙ ap (λ xs. answer_in xs c.args.signature.now) (c.as_slice.ensures.value ∙ sym (kept_get c.self.inside.kept c.args.verified.now (Some c.in-Some.kept.now) (sym c.in-Some.ensures.value))))

pub returns-in-None : goal.returns-in-None
unfolding answer_of
returns-in-None c = rw (← c.self.view_is) (sym (ap (λ xs. answer_in xs c.args.signature.now) (kept_get c.self.inside.kept c.args.verified.now None (sym c.in-None.ensures.value))))
