use Rattle.std.proofs.Common.{◌∙◌, sym, ap, not}
use Rattle.gen_chain.proofs.DistinctPaths.{comes_twice, comes_once}
use Rattle.gen_chain.proofs.reading.are_distinct.Goals as goal

pub returns-then-stands_in : goal.returns-then-stands_in
returns-then-stands_in c =
    let twice = comes_twice c.loop-first.rest.now c.in-Some.others.now c.in-Some.first.now c.in-Some.ensures.cases.0 (sym c.if-stands_in.ensures) in
    ap not (sym twice ∙ c.loop-first.invariant)

pub loop-first-preserved : goal.loop-first-preserved
loop-first-preserved c =
    comes_once c.loop-first.rest.now c.in-Some.others.now c.in-Some.first.now c.in-Some.ensures.cases.0 (sym c.if-stands_in.ensures) ∙ c.loop-first.invariant
