use Rattle.gen_core.specs.Loops.Picking.{AreBest}
use Rattle.std.proofs.Common.{Some, get_or, ◌<◌, ◌≡◌, true, take, refl, subst, ◌∙◌}
use Rattle.std.proofs.lemmas.List.{take_more, take_all}
use Rattle.gen_core.proofs.Best.{better, best_start, best_known, best_more, stays_better, takes_better, first_better}
use Rattle.gen_core.proofs.picks.pick.Goals as goal
use Rattle.gen_core.proofs.picks.pick.Goals.{then-not-contains, in-Some, in_default, in_default-via-in-Some+else-le, in_default-via-in_default, else-not-contains}

pub loop-chain-init : goal.loop-chain-init
loop-chain-init c = best_start c.args.known.now

pub loop-chain-preserved : goal.loop-chain-preserved
loop-chain-preserved c =
    let xs = take c.loop-chain.chain-index c.args.seen.now in
    let s = c.chain-item.result in
    rw (take_more c.args.seen.now c.loop-chain.chain-index c.chain-item.result c.loop-chain-test.true, ← c.chain-item.is)
    (elim c.if-not-contains.branch [
      | then-not-contains w ↦
          let low : s.order < 16 = rw (← w.get-order.ensures.value) w.get-order.ensures.below in
          let read = get_or c.loop-chain.picked w.get-order.result w.index-picked-order.result in
          let chosen : w.match-before.picked ≡ Some (better read s) = elim w.match-before.branch [
            | in-Some w' ↦ w'.picked-is ∙ stays_better read w'.in-Some.other s w'.le.result w'.in-Some.is w'.le.ensures w'.if-le.true
            | in_default w' ↦ w'.picked-is ∙ elim w'.in_default.branch [
              | in_default-via-in-Some+else-le w'' ↦ takes_better read w''.in-Some.other s w''.le.result w''.in-Some.is w''.le.ensures w''.if-le.false
              | in_default-via-in_default w'' ↦ first_better read s w''.in_default.is
            ]
          ] in
          let kept : w.match-before.picked ≡ Some (better (get_or c.loop-chain.picked s.order w.index-picked-order.result) s) = rw w.get-order.ensures.value at chosen in
          rw (w.picked-is, w.get-order.ensures.value) (best_more c.args.known.now xs s c.loop-chain.picked w.index-picked-order.result w.match-before.picked c.loop-chain.invariant low (λ h. let told : c.contains.result ≡ true = c.contains.ensures.1 h in (cc)) kept)
      | else-not-contains w ↦ rw w.picked-is (best_known c.args.known.now xs s c.loop-chain.picked c.loop-chain.invariant (c.contains.ensures.0 w.if-not-contains.false))
    ])

pub returns : goal.returns
returns c = (
  c.loop-chain.picked,
  subst (λ xs. AreBest c.args.known.now xs c.loop-chain.picked) (take_all c.loop-chain.chain-index c.args.seen.now c.loop-chain-test.false) c.loop-chain.invariant,
  refl,
)
