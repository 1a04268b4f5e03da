use Rattle.std.proofs.Common.{◌≡◌, ◌+◌, ◌++◌, ◌∷◌, [], take, subst, ap, sym, ◌∙◌, eqb-true, eq-eqb, true, false}
use Rattle.std.proofs.lemmas.List.{take_more, take_all}
use Rattle.gen_core.specs.Seeing.{AreArrivals}
use Rattle.gen_world.proofs.Arriving.{arrivals_more, arrivals_skip}
use Rattle.gen_world.proofs.running.arrivals.Goals as goal
use Rattle.gen_world.proofs.running.arrivals.Goals.{then-eq+then-len-round+in_ok-push, else-eq, else-eq-via-then-eq+else-len-round, else-eq-via-else-eq}

pub loop-message-preserved : goal.loop-message-preserved
loop-message-preserved c =
    let m = c.message-item.result in
    let before = take c.loop-message.message-index c.args.messages.now in
    let grown : take (c.loop-message.message-index + 1) c.args.messages.now ≡ before ++ m ∷ [] = take_more c.args.messages.now c.loop-message.message-index m c.loop-message-test.true ∙ ap (λ x. before ++ x ∷ []) (sym c.message-item.is) in
    subst (λ ms. AreArrivals ms c.args.me c.args.round c.if-eq.seen.items) (sym grown)
    (elim c.if-eq.branch [
      | then-eq+then-len-round+in_ok-push w ↦
          subst (λ items. AreArrivals (before ++ m ∷ []) c.args.me c.args.round items) (sym (ap (λ e. e.items) w.seen-is ∙ w.in_ok-push.ensures.items))
          (arrivals_more before m c.args.me c.args.round c.loop-message.seen.items c.loop-message.invariant (eqb-true m.to c.args.me (sym c.eq.ensures ∙ w.if-eq.true)) (sym w.len.ensures.length ∙ w.if-len-round.true))
      | else-eq w ↦
          subst (λ items. AreArrivals (before ++ m ∷ []) c.args.me c.args.round items) (sym (ap (λ e. e.items) w.seen-is))
          (arrivals_skip before m c.args.me c.args.round c.loop-message.seen.items c.loop-message.invariant (λ to long.
          elim w.else-eq.branch [ else-eq-via-then-eq+else-len-round w' ↦ w'.if-len-round.false (w'.len.ensures.length ∙ long) | else-eq-via-else-eq w' ↦ let t : c.eq.result ≡ true = c.eq.ensures ∙ eq-eqb m.to c.args.me to in let f : c.eq.result ≡ false = w'.if-eq.false in (cc) ]))
    ])

pub returns : goal.returns
returns c = subst (λ ms. AreArrivals ms c.args.me c.args.round c.loop-message.seen.items) (take_all c.loop-message.message-index c.args.messages.now c.loop-message-test.false) c.loop-message.invariant
