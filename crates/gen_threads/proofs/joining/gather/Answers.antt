use Rattle.std.proofs.Common.{◌+◌, ◌∙◌, List, length, inr, ap, sym, subst, arith}
use Rattle.gen_threads.specs.declared.works.Turn.{Turn}
use Rattle.gen_threads.specs.Faults.{outcome_of}
use Rattle.gen_threads.specs.Works.{IsTurn, TurnsFrom}
use Rattle.gen_threads.proofs.Froms.{from_head, from_tail}
use Rattle.gen_threads.proofs.Gathering.{gathered, gathered_all, goes_more, goes_well, goes_wrong, logs_none, one_fewer}
use Rattle.gen_threads.proofs.HeldRings.{gathered_rings, none_after, rings_gathered}
use Rattle.gen_threads.proofs.joining.gather.Goals as goal

pub loop-turn-init : goal.loop-turn-init
loop-turn-init c =
    let e = c.args.edges.now in let s = c.args.scenario.now in let h = c.args.held.now.value.items in let r = c.requires in (
      0,
      (let a = c.into_iter-turn-iterator.ensures.into_iter_gives.1 in let b = r.count in omega (arith, c.args.turns.ok)),
      subst (TurnsFrom e s h 0) (sym c.into_iter-turn-iterator.ensures.into_iter_gives.0) r.turns,
      r.empty.0 ∙ logs_none s,
      (let a = c.into_iter-turn-iterator.ensures.into_iter_gives.1 in let b = ap (λ (l : List Turn). length l) c.into_iter-turn-iterator.ensures.into_iter_gives.0 in omega (arith, c.args.turns.ok)),
      none_after s h _ r.empty.1,
      inr (ap outcome_of c.into_iter-turn-iterator.ensures.into_iter_gives.0),
    )

pub loop-turn-preserved : goal.loop-turn-preserved
loop-turn-preserved c =
    let e = c.args.edges.now in let s = c.args.scenario.now in let h = c.args.held.now.value.items in let i = c.loop-turn.invariant in
    let k = i.0 in
    let turn = from_head (IsTurn e s h) k c.in-Some.turn _ _ c.in-Some.ensures.steps.0 i.2 in
    let logs = gathered s k c.loop-turn.outcome c.gather_one.result c.loop-turn.logs.items c.gather_one.new.logs.items i.3 (c.gather_one.ensures.logs e s h k turn) in (
      k + 1,
      (let a = i.1 in let b = c.in-Some.ensures.steps.1 in omega arith),
      from_tail (IsTurn e s h) k c.in-Some.turn _ _ c.in-Some.ensures.steps.0 i.2,
      rw c.worse-outcome.ensures logs,
      one_fewer c.in-Some.turn _ _ _ _ c.in-Some.ensures.steps.0 c.in-Some.ensures.steps.1 i.4,
      rw c.worse-outcome.ensures (rings_gathered s h k c.loop-turn.outcome c.gather_one.result c.loop-turn.rings.items c.gather_one.new.rings.items i.5 (c.gather_one.ensures.rings e s h k turn)),
      rw c.worse-outcome.ensures (goes_more c.loop-turn.outcome c.gather_one.result c.in-Some.turn _ _ _ c.in-Some.ensures.steps.0 c.gather_one.ensures.outcome i.6),
    )

pub returns-in-Ok-clause-logs : goal.returns-in-Ok-clause-logs
returns-in-Ok-clause-logs c =
    let s = c.args.scenario.now in let i = c.loop-turn.invariant in
    gathered_all s i.0 _ c.loop-turn.outcome _ c.loop-turn.logs.items c.in-Ok.is c.in-None.ensures.steps.0 i.1 i.3

pub returns-in-Ok-clause-outcome : goal.returns-in-Ok-clause-outcome
returns-in-Ok-clause-outcome c =
    let i = c.loop-turn.invariant in
    goes_well c.loop-turn.outcome _ _ _ _ c.in-Ok.is i.4 c.in-None.ensures.steps.0 i.6

pub returns-in-Err-clause-outcome : goal.returns-in-Err-clause-outcome
returns-in-Err-clause-outcome c =
    let i = c.loop-turn.invariant in
    rw c.answered.ensures (goes_wrong c.loop-turn.outcome c.in-Err.fault _ _ _ c.in-Err.is i.4 c.in-None.ensures.steps.0 i.6)

pub returns-in-Ok-clause-rings : goal.returns-in-Ok-clause-rings
returns-in-Ok-clause-rings c =
    let s = c.args.scenario.now in let i = c.loop-turn.invariant in
    gathered_rings s c.args.held.now.value.items i.0 _ c.loop-turn.outcome _ c.loop-turn.rings.items c.in-Ok.is c.in-None.ensures.steps.0 i.1 i.5
