use Rattle.std.proofs.Common.{◌≡◌, sym, ap, ◌∙◌, eqb}
use Rattle.std.specs.Prelude.{true, false}
use Rattle.std.proofs.lemmas.List.{nil_from_length}
use Rattle.gen_node.proofs.Rows.{held_here, held_later, held_nowhere}
use Rattle.gen_node.proofs.held.find_held.Goals as goal

pub returns-then-eq : goal.returns-then-eq
returns-then-eq c =
    let test : eqb c.in-Some.held.now.general c.args.general ≡ true = ap (λ v. eqb v c.args.general) (sym c.general.ensures) ∙ sym c.eq.ensures ∙ c.if-eq.true in
    sym (held_here c.args.general c.rest.rest.now c.in-Some.others.now c.in-Some.held.now c.in-Some.ensures.cases.0 test) ∙ c.rest.invariant

pub rest-preserved : goal.rest-preserved
rest-preserved c =
    let test : eqb c.in-Some.held.now.general c.args.general ≡ false = ap (λ v. eqb v c.args.general) (sym c.general.ensures) ∙ sym c.eq.ensures ∙ c.if-eq.false in
    sym (held_later c.args.general c.rest.rest.now c.in-Some.others.now c.in-Some.held.now c.in-Some.ensures.cases.0 test) ∙ c.rest.invariant

pub returns : goal.returns
returns c = sym (held_nowhere c.args.general c.rest.rest.now (nil_from_length _ c.in_default.ensures.cases)) ∙ c.rest.invariant
