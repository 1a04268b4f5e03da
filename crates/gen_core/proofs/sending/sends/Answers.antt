use Rattle.std.proofs.Common.{◌<◌, [], length, sym, subst, arith, inl, inr}
use Rattle.gen_types.proofs.Lists.{Contains_nil}
use Rattle.gen_net.proofs.Neighbours.{joined_below}
use Rattle.gen_core.specs.Sending.{Appends}
use Rattle.gen_core.specs.Loops.Pushing.{IsDueBelow, GoesUpTo}
use Rattle.gen_core.proofs.Due.{due_small, more_rows, one_receiver_more}
use Rattle.gen_core.proofs.sending.sends.Goals as goal

pub push_due-requires : goal.push_due-requires
push_due-requires c = subst (λ n. GoesUpTo c.loop-number.out.items n 0) (sym c.at.ensures) c.loop-number.invariant.order

pub loop-number-preserved : goal.loop-number-preserved
loop-number-preserved c =
    let net = c.args.net.now in
    let adds = c.args.adds.now in
    let n = c.loop-number.number in
    let row = subst (λ k. Appends (IsDueBelow net c.args.me adds k (length adds)) c.loop-number.out.items c.push_due.new.out.items) c.at.ensures c.in_ok-push_due.ensures.exactly in
    let order = subst (λ k. GoesUpTo c.push_due.new.out.items k (length adds)) c.at.ensures c.in_ok-push_due.ensures.order in
    record {
      exactly = more_rows net c.args.me adds n (length adds) [] c.loop-number.out.items c.push_due.new.out.items (due_small net c.args.me adds) c.loop-number.invariant.exactly row;
      order = one_receiver_more c.push_due.new.out.items n (length adds) order;
    }

pub returns : goal.returns
returns c = record {
  exactly = λ x. (
    (λ h. elim ((c.loop-number.invariant.exactly x).0 h) [ inl none ↦ absurd (Contains_nil x none) | inr q ↦ q.1 ]),
    (λ d.
        let below : x.to < c.args.net.now.generals = joined_below c.args.net.now c.generals-number-end.ensures.network c.args.me x.to d.neighbour in
        (c.loop-number.invariant.exactly x).1 (inr (omega (arith, c.generals-number-end.ensures.value), d))),
  );
  in_order = c.loop-number.invariant.order.in_order;
}
