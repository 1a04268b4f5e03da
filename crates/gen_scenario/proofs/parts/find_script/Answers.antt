use Rattle.std.proofs.Common.{◌≡◌, sym, ap, ◌∙◌, eqb, true, false}
use Rattle.std.proofs.lemmas.List.{nil_from_length}
use Rattle.gen_scenario.proofs.KnownParts.{script_here, script_later, script_nowhere}
use Rattle.gen_scenario.proofs.parts.find_script.Goals as goal

pub returns-then-eq : goal.returns-then-eq
returns-then-eq c =
    let test : eqb c.in-Some.script.now.general c.args.general ≡ true = ap (λ v. eqb v c.args.general) (sym c.general.ensures) ∙ sym c.eq.ensures ∙ c.if-eq.true in
    sym (script_here c.args.general c.rest.rest.now c.in-Some.others.now c.in-Some.script.now c.in-Some.ensures.cases.0 test) ∙ c.rest.invariant

pub rest-preserved : goal.rest-preserved
rest-preserved c =
    let test : eqb c.in-Some.script.now.general c.args.general ≡ false = ap (λ v. eqb v c.args.general) (sym c.general.ensures) ∙ sym c.eq.ensures ∙ c.if-eq.false in
    sym (script_later c.args.general c.rest.rest.now c.in-Some.others.now c.in-Some.script.now c.in-Some.ensures.cases.0 test) ∙ c.rest.invariant

pub returns : goal.returns
returns c = sym (script_nowhere c.args.general c.rest.rest.now (nil_from_length _ c.in_default.ensures.cases)) ∙ c.rest.invariant
