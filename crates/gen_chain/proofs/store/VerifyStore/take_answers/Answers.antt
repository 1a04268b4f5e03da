use Rattle.std.proofs.Common.{arith, ◌≡◌, slice_index_or, subst, sym, ◌∙◌}
use Rattle.std.proofs.lemmas.List.{get_or_default}
use Rattle.gen_chain.specs.declared.kept.Kept.{Kept}
use Rattle.gen_chain.specs.Taking.{Takes, triple_at}
use Rattle.gen_chain.proofs.TakenAnswers.{none_taken, one_taken_more, taken}
use Rattle.gen_chain.proofs.store.VerifyStore.take_answers.Goals as goal
use Rattle.gen_chain.proofs.store.VerifyStore.take_answers.Goals.{in-Some+in_ok-add_answer, in_default}

pub signatures-preserved : goal.signatures-preserved
signatures-preserved c =
    let h = c.args.header.now in
    let other = c.args.other.now in
    let kept = c.args.signatures.now in
    let at = c.signatures.kept-index in
    let v = c.args.verified.now in
    let old = c.signatures.self in
    let inv = c.signatures.invariant in
    let same : (d : Kept) → c.kept-item.result ≡ slice_index_or kept at d = λ d. c.kept-item.is ∙ get_or_default kept at c.kept-item.result d (omega (arith, c.signatures-test.true)) in
    elim c.match-answer_of.branch [
      | in-Some+in_ok-add_answer w ↦
          let right = inv.other _ _ (sym c.answer_of.ensures ∙ w.in-Some.is) in
          let step = w.add_answer.ensures.serves h inv.serves right in
          let new = w.add_answer.new.self in
          let takes = taken h other new _ step.0 inv.other w.in_ok-add_answer.ensures.kept in
          rw w.self-is (record {
            serves = step.0;
            other = inv.other;
            grows = λ t answer e. step.1 t answer (inv.grows t answer e);
            taken = one_taken_more other old new v kept at step.1 (λ d. subst (λ (k : Kept). Takes other new (triple_at v k.signature)) (same d) takes) inv.taken;
          })
      | in_default w ↦
          let takes = none_taken other old _ (sym c.answer_of.ensures ∙ w.in_default.is) in
          rw w.self-is (record {
            serves = inv.serves;
            other = inv.other;
            grows = inv.grows;
            taken = one_taken_more other old old v kept at (λ t answer e. e) (λ d. subst (λ (k : Kept). Takes other old (triple_at v k.signature)) (same d) takes) inv.taken;
          })
    ]

pub returns-in_err-add_answer-clause-grows : goal.returns-in_err-add_answer-clause-grows
returns-in_err-add_answer-clause-grows c =
    let inv = c.signatures.invariant in
    let right = inv.other _ _ (sym c.answer_of.ensures ∙ c.in-Some.is) in
    let step = c.add_answer.ensures.serves c.args.header.now inv.serves right in
    λ t answer e. step.1 t answer (inv.grows t answer e)

pub returns-in_err-add_answer-clause-serves : goal.returns-in_err-add_answer-clause-serves
returns-in_err-add_answer-clause-serves c =
    let inv = c.signatures.invariant in
    let right = inv.other _ _ (sym c.answer_of.ensures ∙ c.in-Some.is) in
    (c.add_answer.ensures.serves c.args.header.now inv.serves right).0
