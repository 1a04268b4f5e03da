use Rattle.std.proofs.Common.{List, sym, subst, arith}
use Rattle.std.proofs.lemmas.List.Elements.{All-push}
use Rattle.gen_threads.specs.declared.edges.Passes.{Passes}
use Rattle.gen_threads.specs.Edges.{HasNewPasses}
use Rattle.gen_threads.proofs.Froms.{From, from_all, from_head, from_tail}
use Rattle.library_tests.specs.Seats.{MayTakeSeat}
use Rattle.library_tests.specs.declared.own_threads.Seat.{Seat}
use Rattle.library_tests.proofs.own_threads.seats_of.Goals as goal

pub generals-init : goal.generals-init
generals-init c =
    let Has = HasNewPasses c.args.edges.now c.args.scenario.now in
    record {
      left = subst (λ (xs : List Passes). From Has 0 xs) (sym c.into_iter-rest.ensures.rest) (from_all Has c.args.scenario.now.net.generals c.args.all.items c.requires);
      made = rw c.new-seats.ensures.items (λ k d low. absurd (omega (arith, low)));
    }

pub generals-preserved : goal.generals-preserved
generals-preserved c =
    let e = c.args.edges.now in let s = c.args.scenario.now in
    let Has = HasNewPasses e s in
    let n = c.generals.number in
    let x = c.in-Some.passes in
    let has = from_head Has n x _ _ c.in-Some.ensures.cases.0 c.generals.invariant.left in
    record {
      left = from_tail Has n x _ _ c.in-Some.ensures.cases.0 c.generals.invariant.left;
      made = rw c.in_ok-push.ensures.items (All-push (λ (seat : Seat). MayTakeSeat e s seat.me seat.passes) c.generals.seats.items (record { me = c.at-me.result; passes = x }) c.generals.invariant.made
          (record { known = (let below = rw (c.net.ensures.value, c.header.ensures.value) at c.generals-number-end.ensures.value in omega (arith, c.generals-test.true, below, c.at-me.ensures)); new_passes = subst (λ m. Has m x) (sym c.at-me.ensures) has }));
    }
