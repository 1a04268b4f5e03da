use Rattle.std.proofs.Common.{◌≡◌, rules, ℕ, List, subst, arith, vec_len}
use Rattle.gen_tree.specs.Rings.{Ring}
use Rattle.gen_scenario.specs.Scenario.{Scenario}
use Rattle.gen_threads.specs.declared.edges.Edges.{Edges}
use Rattle.gen_threads.specs.Works.{IsPromise, IsTurn}
use Rattle.gen_threads.proofs.Froms.{from_head, from_tail, from_push}
use Rattle.gen_threads.proofs.joining.join_all.Goals as goal

pub loop-handle-preserved : goal.loop-handle-preserved
loop-handle-preserved g c =
    let e = c.args.field.edges.now in let s = c.args.field.scenario.now in let r = c.args.field.rings.now.value.items in let i = c.loop-handle.invariant in
    let n = vec_len c.loop-handle.turns in
    let mine = from_head (λ k h. IsPromise e s r k h.promise) n c.in-Some.handle _ _ c.in-Some.ensures.steps.0 i.1 in
    let turn : IsTurn e s r n c.join.result = subst (λ (y : Edges × Scenario × List Ring × ℕ). IsTurn y.0 y.1 y.2 y.3 c.join.result) (λ j. (mine.1 j, mine.2 j, mine.3 j, mine.0 j)) c.join.ensures in (
      (let a = c.push_reserved.ensures.len in let b = c.in-Some.ensures.steps.1 in let d = i.0 in omega arith),
      rw c.push_reserved.ensures.len (from_tail (λ k h. IsPromise e s r k h.promise) n c.in-Some.handle _ _ c.in-Some.ensures.steps.0 i.1),
      from_push (IsTurn e s r) 0 n _ _ _ c.push_reserved.ensures.items (omega (arith, c.loop-handle.turns.ok)) i.2 turn,
      search rules,
    )

pub loop-turn-preserved : goal.loop-turn-preserved
loop-turn-preserved g c =
    let e = c.args.field.edges.now in let s = c.args.field.scenario.now in let r = c.args.field.rings.now.value.items in let i = c.loop-turn.invariant in
    let n = vec_len c.loop-turn.turns in
    let turn = from_head (IsTurn e s r) n c.in-Some-turn.turn _ _ c.in-Some-turn.ensures.steps.0 i.1 in (
      (let a = c.push_reserved-in-loop-turn.ensures.len in let b = c.in-Some-turn.ensures.steps.1 in let d = i.0 in omega arith),
      rw c.push_reserved-in-loop-turn.ensures.len (from_tail (IsTurn e s r) n c.in-Some-turn.turn _ _ c.in-Some-turn.ensures.steps.0 i.1),
      from_push (IsTurn e s r) 0 n _ _ _ c.push_reserved-in-loop-turn.ensures.items (omega (arith, c.loop-turn.turns.ok)) i.2 turn,
      search rules,
    )

pub loop-turn-init : goal.loop-turn-init
loop-turn-init g c =
    let e = c.args.field.edges.now in let s = c.args.field.scenario.now in let r = c.args.field.rings.now.value.items in let i = c.loop-handle.invariant in
    let all : vec_len c.loop-handle.turns ≡ vec_len c.args.handles = search rules in (
      search rules,
      rw all (search rules),
      i.2,
      search rules,
    )
