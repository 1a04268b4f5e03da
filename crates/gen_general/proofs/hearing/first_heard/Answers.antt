use Rattle.std.proofs.Common.{◌≡◌, sym, ap, ◌∙◌, eqb}
use Rattle.std.specs.Prelude.{true, false}
use Rattle.std.proofs.lemmas.List.{nil_from_length}
use Rattle.gen_general.proofs.HearSteps.{first_here, first_later, first_nowhere}
use Rattle.gen_general.proofs.hearing.first_heard.Goals as goal

pub returns-then-eq : goal.returns-then-eq
returns-then-eq c =
    let test : eqb c.in-Some.x.now.chain.order c.args.order ≡ true = ap (λ v. eqb v c.args.order) (sym c.order.ensures.value) ∙ sym c.eq.ensures ∙ c.if-eq.true in
    sym (first_here c.args.order c.rest.rest.now c.in-Some.others.now c.in-Some.x.now c.in-Some.ensures.cases.0 test) ∙ c.rest.invariant

pub rest-preserved : goal.rest-preserved
rest-preserved c =
    let test : eqb c.in-Some.x.now.chain.order c.args.order ≡ false = ap (λ v. eqb v c.args.order) (sym c.order.ensures.value) ∙ sym c.eq.ensures ∙ c.if-eq.false in
    sym (first_later c.args.order c.rest.rest.now c.in-Some.others.now c.in-Some.x.now c.in-Some.ensures.cases.0 test) ∙ c.rest.invariant

pub returns : goal.returns
returns c = sym (first_nowhere c.args.order c.rest.rest.now (nil_from_length _ c.in_default.ensures.cases)) ∙ c.rest.invariant
