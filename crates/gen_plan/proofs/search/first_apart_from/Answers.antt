use Rattle.std.proofs.Common.{refl, sym, subst, arith}
use Rattle.gen_plan.proofs.Joined.{JoinedBelow, apart_from, joined_next}
use Rattle.gen_plan.proofs.Told.{told_otherwise}
use Rattle.gen_plan.proofs.search.first_apart_from.Goals as goal
use Rattle.gen_plan.proofs.search.first_apart_from.Goals.{else-get-via-then-get+then-not-contains+else-not-contains-2, else-get-via-then-get+else-not-contains, else-get-via-else-get}

pub returns-then-not-contains-2-clause-some : goal.returns-then-not-contains-2-clause-some
returns-then-not-contains-2-clause-some c =
    apart_from c.args.graph.now c.args.faulty.now c.joined_to-joined.result c.args.most c.args.a c.at-b.result
    (c.requires, λ h. told_otherwise (c.if-contains.ensures.1 h)) c.joined_to-joined.ensures
    (subst (JoinedBelow c.args.graph.now c.args.faulty.now c.args.most c.args.a) (sym c.at-b.ensures) c.loop-number.invariant)
    (omega (arith, c.if-get.true, c.get.ensures.value, c.get-in-loop-number.ensures.value))
    (omega (arith, c.loop-number-test.true, c.generals-number-end.ensures.value, c.at-b.ensures), λ h. told_otherwise (c.if-not-contains.ensures.1 h))
    (λ h. told_otherwise (c.if-not-contains-2.ensures.1 h))

pub loop-number-preserved : goal.loop-number-preserved
loop-number-preserved c =
    joined_next c.args.graph.now c.args.faulty.now c.joined_to-joined.result c.args.most c.args.a c.at-b.result c.loop-number.number c.at-b.ensures
    c.joined_to-joined.ensures c.loop-number.invariant (λ apart. elim c.else-get.branch [
      | else-get-via-then-get+then-not-contains+else-not-contains-2 w ↦ apart.2 (w.if-not-contains-2.ensures.0 refl)
      | else-get-via-then-get+else-not-contains w ↦ apart.1 (w.if-not-contains.ensures.0 refl)
      | else-get-via-else-get w ↦ absurd (omega (arith, apart.0, w.if-get.false, c.get.ensures.value, c.get-in-loop-number.ensures.value))
    ])
