use Rattle.std.proofs.Common.{◌≡◌, ◌∙◌, sym, subst, arith, vec_len}
use Rattle.gen_threads.specs.Edges.{HasNewPasses}
use Rattle.gen_threads.specs.Works.{IsWork}
use Rattle.gen_threads.proofs.Froms.{from_head, from_tail, from_push}
use Rattle.gen_threads.proofs.HeldRings.{IsHandedIn}
use Rattle.gen_threads.proofs.works.make_works.Goals as goal

pub works-preserved-in-Some-next : goal.works-preserved-in-Some-next
works-preserved-in-Some-next c =
    let e = c.in_ok-edges.edges in
    let s = c.args.scenario.now in
    let h = c.args.rings.items in
    let n = vec_len c.works.works in
    let i = c.works.invariant in
    let held = from_head (IsHandedIn s h) n c.in-Some-next.ring _ _ c.in-Some-next.ensures.cases.0 i.held in
    let passes = from_head (HasNewPasses e s) n c.in-Some.passes _ _ c.in-Some.ensures.steps.0 i.left in
    let work : IsWork e s h n (record { ring = c.in-Some-next.ring; passes = c.in-Some.passes }) = record { ring = held.0; serves = held.1; passes = passes } in
    record {
      count = (let a = i.count in let b = c.in-Some.ensures.steps.1 in let d = c.push_reserved.ensures.len in omega arith);
      rings = (let a = i.rings in let b = c.in-Some-next.ensures.cases.1 in let d = c.push_reserved.ensures.len in omega arith);
      room = c.push_reserved.ensures.capacity ∙ i.room;
      left = rw c.push_reserved.ensures.len (from_tail (HasNewPasses e s) n c.in-Some.passes _ _ c.in-Some.ensures.steps.0 i.left);
      held = rw c.push_reserved.ensures.len (from_tail (IsHandedIn s h) n c.in-Some-next.ring _ _ c.in-Some-next.ensures.cases.0 i.held);
      made = from_push (IsWork e s h) 0 n _ _ _ c.push_reserved.ensures.items (omega (arith, c.works.works.ok)) i.made work;
    }

pub works-preserved : goal.works-preserved
works-preserved c =
    let a = c.works.invariant.count in
    let b = c.in-Some.ensures.steps.1 in
    let d = c.works.invariant.rings in
    let v = rw c.in_default.is at c.next-in-works.ensures.cases in
    absurd (omega (arith, a, b, d, v))
