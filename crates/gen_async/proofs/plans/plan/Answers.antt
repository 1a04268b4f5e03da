use Rattle.std.proofs.Common.{◌≡◌, ◌+◌, ◌++◌, append_assoc, ap, map, ◌∙◌, arith}
use Rattle.std.proofs.lemmas.List.{take_all}
use Rattle.gen_async.specs.declared.acts.Act.TheVariants.{Puts, Takes}
use Rattle.gen_async.specs.Acts.{acts_of_round}
use Rattle.gen_async.proofs.Planning.{near_here, near_not, near_all, rounds_more, all_rounds}
use Rattle.gen_async.proofs.plans.plan.Goals as goal
use Rattle.gen_async.proofs.plans.plan.Goals.{then-has_edge+in_ok-push, else-has_edge}

pub generals-preserved : goal.generals-preserved
generals-preserved c = elim c.if-has_edge.branch [
  | then-has_edge+in_ok-push w ↦ near_here c.args.net.now c.args.me c.generals.number c.at-other.result c.at-other.ensures c.has_edge.result c.has_edge.ensures c.generals.found.items c.if-has_edge.found.items c.generals.invariant w.if-has_edge.true (ap (λ z. z.items) w.found-is ∙ w.in_ok-push.ensures.items)
  | else-has_edge w ↦ near_not c.args.net.now c.args.me c.generals.number c.at-other.result c.at-other.ensures c.has_edge.result c.has_edge.ensures c.generals.found.items c.if-has_edge.found.items c.generals.invariant w.if-has_edge.false (ap (λ z. z.items) w.found-is)
]

pub rounds-preserved : goal.rounds-preserved
rounds-preserved c =
    let near = c.as_slice-near.result.now in
    let l = c.rounds.round in
    let old = c.rounds.acts.items in
    let puts : c.puts.acts.items ≡ old ++ map (Puts l) near = c.puts.invariant ∙ ap (λ xs. old ++ map (Puts l) xs) (take_all c.puts.to-index near c.puts-test.false) in
    let takes : c.takes.acts.items ≡ c.puts.acts.items ++ map (Takes l) near = c.takes.invariant ∙ ap (λ xs. c.puts.acts.items ++ map (Takes l) xs) (take_all c.takes.from-index near c.takes-test.false) in
    let all : c.takes.acts.items ≡ old ++ acts_of_round near l = takes ∙ ap (λ z. z ++ map (Takes l) near) puts ∙ append_assoc old (map (Puts l) near) (map (Takes l) near) in
    rounds_more near l old c.takes.acts.items c.rounds.auto.round c.rounds.invariant all

pub returns : goal.returns
returns c =
    let near = c.as_slice-near.result.now in
    let all = near_all c.args.net.now c.args.me c.generals.number c.generals-number-end.result c.generals.found.items c.generals-number-end.ensures.value c.generals.auto.number-end c.generals-test.false c.generals.invariant in
    all_rounds c.args.net.now c.args.me c.rounds.round (c.rounds-round-end.result + 1) near c.rounds.acts.items (c.as_slice-near.ensures.value ∙ all) (omega (arith, c.rounds-round-end.ensures.value)) (omega (arith, c.rounds.auto.round-end)) c.rounds-test.false c.rounds.invariant
