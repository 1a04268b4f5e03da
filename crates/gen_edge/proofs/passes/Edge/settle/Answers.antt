use Rattle.std.proofs.Common.{rules, ◌≡◌, ap, ◌∙◌, subst}
use Rattle.crossbeam_queue.specs.Passes.{view}
use Rattle.crossbeam_queue.specs.Fifo.{Held}
use Rattle.gen_edge.specs.declared.rule.PassView.{PassView}
use Rattle.gen_edge.specs.Tied.{both_sides, Rests}
use Rattle.gen_edge.proofs.Steps.{joins, takes, settles}
use Rattle.gen_edge.proofs.Settled.{Drained, drained_more, drained_empty, drained_all}
use Rattle.gen_edge.proofs.Bounds.{nothing_left}
use Rattle.gen_edge.proofs.passes.Edge.settle.Goals as goal

pub absorb-requires-clause-rule : goal.absorb-requires-clause-rule
absorb-requires-clause-rule g c = joins _ _ _ _ c.requires.0.1 c.requires.1.1

pub len_as-count-requires-clause-rule : goal.len_as-count-requires-clause-rule
len_as-count-requires-clause-rule g c =
    settles _ _ (ap (λ (y : PassView). y.puts) c.absorb.ensures.rule ∙ c.requires.0.1) (ap (λ (y : PassView). y.takes) c.absorb.ensures.rule)

pub pop_as-requires-clause-rule : goal.pop_as-requires-clause-rule
pop_as-requires-clause-rule g c = let d = c.left.invariant.1 in (takes _ _ d.takes, settles _ _ d.puts d.takes)

pub learn_as-requires-clause-rule : goal.learn_as-requires-clause-rule
learn_as-requires-clause-rule g c = let d = c.left.invariant.1 in settles _ _ d.puts d.takes

pub left-preserved : goal.left-preserved
left-preserved g c = (search rules, rw c.push_reserved.ensures.items (drained_more _ _ _ _ _ c.left.invariant.1 c.in-Some.ensures.rule), search rules, search rules)

pub returns-clause-left : goal.returns-clause-left
returns-clause-left g c =
    let v = view c.args.put.pass in let t = view c.args.take.pass in
    let start : view c.len_as-count.new.pass ≡ both_sides v t = c.len_as-count.ensures.queue.1 ∙ c.absorb.ensures.rule in
    let d = subst (λ (y : PassView). Drained y (view c.left.pass) c.left.room.items) start c.left.invariant.1 in
    let held = subst (λ (y : PassView). Held c.len_as-count.result (Rests y)) c.absorb.ensures.rule c.len_as-count.ensures.rule.1 in
    drained_all (both_sides v t) _ _ c.len_as-count.result d held (search rules) c.learn_as.ensures.rule

pub returns-clause-ended : goal.returns-clause-ended
returns-clause-ended g c = nothing_left _ _ _ _ _ _ (returns-clause-left g c)

pub returns-in-None-clause-left : goal.returns-in-None-clause-left
returns-in-None-clause-left g c =
    let v = view c.args.put.pass in let t = view c.args.take.pass in
    let start : view c.len_as-count.new.pass ≡ both_sides v t = c.len_as-count.ensures.queue.1 ∙ c.absorb.ensures.rule in
    let d = subst (λ (y : PassView). Drained y (view c.left.pass) c.left.room.items) start c.left.invariant.1 in
    drained_empty (both_sides v t) _ _ d c.in-None.ensures.rule.1

pub returns-in-None-clause-ended : goal.returns-in-None-clause-ended
returns-in-None-clause-ended g c = nothing_left _ _ _ _ _ _ (returns-in-None-clause-left g c)
