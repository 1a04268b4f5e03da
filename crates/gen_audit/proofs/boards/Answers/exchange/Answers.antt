use Rattle.std.proofs.Common.{◌∙◌, sym, subst}
use Rattle.gen_chain.specs.Store.{Serves}
use Rattle.gen_net.specs.SameHeaderLaws.{header_decides}
use Rattle.gen_audit.proofs.boards.Answers.exchange.Goals as goal

pub take_few-requires-clause-serves : goal.take_few-requires-clause-serves
take_few-requires-clause-serves c =
    subst (λ h. Serves h c.self.inside.store) ((header_decides c.self.inside.header c.args.header.now).0 (sym c.eq.ensures ∙ c.if-eq.true)) c.self.invariant

pub invariant_of-self : goal.invariant_of-self
invariant_of-self c =
    subst (λ h. Serves h c.take_few.new.store) (sym ((header_decides c.self.inside.header c.args.header.now).0 (sym c.eq.ensures ∙ c.if-eq.true))) c.take_few.ensures.serves

pub invariant_of-self-in-Continue-branch-2 : goal.invariant_of-self-in-Continue-branch-2
invariant_of-self-in-Continue-branch-2 c =
    subst (λ h. Serves h c.take_few.new.store) (sym ((header_decides c.self.inside.header c.args.header.now).0 (sym c.eq.ensures ∙ c.if-eq.true))) c.take_few.ensures.serves

pub invariant_of-self-in_err-take_few-2 : goal.invariant_of-self-in_err-take_few-2
invariant_of-self-in_err-take_few-2 c =
    subst (λ h. Serves h c.take_few.new.store) (sym ((header_decides c.self.inside.header c.args.header.now).0 (sym c.eq.ensures ∙ c.if-eq.true))) c.take_few.ensures.serves
