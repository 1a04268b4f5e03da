use Rattle.std.proofs.Common.{◌≡◌, ◌+◌, ◌++◌, ◌∷◌, ◌↔◌, [], ℕ, List, Some, length, subst, arith, ap, sym, ◌∙◌}
use Rattle.gen_core.specs.declared.sending.Outgoing.{Outgoing}
use Rattle.gen_core.specs.Sending.{outgoing, IsDue, Appends}
use Rattle.gen_core.specs.Loops.Pushing.{IsDueBelow, GoesUpTo}
use Rattle.gen_core.proofs.Appending.{appended, appended_same}
use Rattle.gen_core.proofs.Due.{more_due, no_due, one_order_more, pushed_in_order}
use Rattle.gen_core.proofs.sending.push_due.Goals as goal
use Rattle.gen_core.proofs.sending.push_due.Goals.{in-Some+in_ok-push, in_default}

pub loop-number-preserved : goal.loop-number-preserved
loop-number-preserved c =
    let told = subst (λ v. (path : List ℕ) → (c.due_at.result ≡ Some path) ↔ IsDue c.args.net.now c.args.me c.args.adds.now (outgoing c.args.to v path)) c.at-order.ensures c.due_at.ensures in
    let P : Outgoing → Type 0 = IsDueBelow c.args.net.now c.args.me c.args.adds.now c.args.to c.loop-number.number in
    let Q : Outgoing → Type 0 = IsDueBelow c.args.net.now c.args.me c.args.adds.now c.args.to (c.loop-number.number + 1) in
    elim c.match-due_at.branch [
      | in-Some+in_ok-push w ↦
          let grown : c.match-due_at.out.items ≡ c.loop-number.out.items ++ outgoing c.args.to c.loop-number.number w.in-Some.path ∷ [] = ap (λ e. e.items) w.out-is ∙ (w.in_ok-push.ensures.items ∙ ap (λ v. c.loop-number.out.items ++ outgoing c.args.to v w.in-Some.path ∷ []) c.at-order.ensures) in
          record {
            exactly = appended P Q c.args.out.now.items c.loop-number.out.items c.match-due_at.out.items (outgoing c.args.to c.loop-number.number w.in-Some.path) c.loop-number.invariant.exactly grown (more_due c.args.net.now c.args.me c.args.adds.now c.args.to c.loop-number.number c.due_at.result told w.in-Some.path w.in-Some.is);
            order = pushed_in_order c.loop-number.out.items c.match-due_at.out.items c.args.to c.loop-number.number w.in-Some.path c.loop-number.invariant.order grown;
          }
      | in_default w ↦
          let same : c.match-due_at.out.items ≡ c.loop-number.out.items = ap (λ e. e.items) w.out-is in
          record {
            exactly = subst (λ items. Appends Q c.args.out.now.items items) (sym same) (appended_same P Q c.args.out.now.items c.loop-number.out.items c.loop-number.invariant.exactly (no_due c.args.net.now c.args.me c.args.adds.now c.args.to c.loop-number.number c.due_at.result told w.in_default.not-Some));
            order = subst (λ items. GoesUpTo items c.args.to (c.loop-number.number + 1)) (sym same) (one_order_more c.loop-number.out.items c.args.to c.loop-number.number c.loop-number.invariant.order);
          }
    ]

pub returns-clause-exactly : goal.returns-clause-exactly
returns-clause-exactly c =
    let end : c.loop-number.number ≡ length c.args.adds.now = omega arith in
    subst (λ n. Appends (IsDueBelow c.args.net.now c.args.me c.args.adds.now c.args.to n) c.args.out.now.items c.loop-number.out.items) end c.loop-number.invariant.exactly

pub returns-clause-order : goal.returns-clause-order
returns-clause-order c =
    let end : c.loop-number.number ≡ length c.args.adds.now = omega arith in
    subst (λ n. GoesUpTo c.loop-number.out.items c.args.to n) end c.loop-number.invariant.order
