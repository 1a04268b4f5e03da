use Rattle.std.proofs.Common.{◌≡◌, length, refl, sym, ap, ◌∙◌, eqb}
use Rattle.std.specs.Prelude.{true, false}
use Rattle.std.proofs.lemmas.Bool.{eq-eqb}
use Rattle.std.proofs.lemmas.List.{nil_from_length}
use Rattle.gen_chain.specs.Chain.{signed_path}
use Rattle.gen_general.proofs.HearSteps.{came_not, found_here, found_later, found_nowhere, has_come}
use Rattle.gen_general.proofs.hearing.find_heard.Goals as goal
use Rattle.gen_general.proofs.hearing.find_heard.Goals.{else-eq-via-then-eq+then-eq-2+else-in_round, else-eq-via-then-eq+else-eq-2, else-eq-via-else-eq}

pub returns-then-in_round : goal.returns-then-in_round
returns-then-in_round c =
    let x = c.in-Some.x.now in
    let from : eqb x.from c.args.from ≡ true = sym c.eq.ensures ∙ c.if-eq.true in
    let order : eqb x.chain.order c.args.order ≡ true = ap (λ v. eqb v c.args.order) (sym c.order.ensures.value) ∙ sym c.eq-then-eq.ensures ∙ c.if-eq-2.true in
    let long : length (signed_path x.chain.signers) ≡ c.args.round = ap length (sym c.path.ensures) ∙ sym c.len.ensures.length ∙ c.if-in_round.true ∙ c.from.ensures in
    let here : has_come c.args.round c.args.from c.args.order x ≡ true = rw (from, order, eq-eqb (length (signed_path x.chain.signers)) c.args.round long) refl in
    sym (found_here c.args.round c.args.from c.args.order c.rest.rest.now c.in-Some.others.now x c.in-Some.ensures.cases.0 here) ∙ c.rest.invariant

pub rest-preserved : goal.rest-preserved
rest-preserved c =
    let x = c.in-Some.x.now in
    let other : has_come c.args.round c.args.from c.args.order x ≡ false = came_not c.args.round c.args.from c.args.order x (λ from order long. elim c.else-eq.branch [
      | else-eq-via-then-eq+then-eq-2+else-in_round w ↦ w.if-in_round.false (c.len.ensures.length ∙ ap length c.path.ensures ∙ long ∙ sym c.from.ensures)
      | else-eq-via-then-eq+else-eq-2 w ↦ let t : w.eq-then-eq.result ≡ true = w.eq-then-eq.ensures ∙ ap (λ v. eqb v c.args.order) w.order.ensures.value ∙ order in let f = w.if-eq-2.false in absurd cc
      | else-eq-via-else-eq w ↦ let t : c.eq.result ≡ true = c.eq.ensures ∙ from in let f = w.if-eq.false in absurd cc
    ]) in
    sym (found_later c.args.round c.args.from c.args.order c.rest.rest.now c.in-Some.others.now x c.in-Some.ensures.cases.0 other) ∙ c.rest.invariant

pub returns : goal.returns
returns c = sym (found_nowhere c.args.round c.args.from c.args.order c.rest.rest.now (nil_from_length _ c.in_default.ensures.cases)) ∙ c.rest.invariant
