use Rattle.std.proofs.Common.{◌≡◌, ◌<◌, ◌-◌, ◌∙◌, map, ap, arith}
use Rattle.std.specs.List.{range_with_len}
use Rattle.rayon.specs.Numbers.{nat_range}
use Rattle.rayon.proofs.ToStd.{nat_range-All}
use Rattle.gen_scenario.specs.Trees.{general_tree}
use Rattle.gen_threads.proofs.TreesMade.{oks_are_map, ok_of_match}
use Rattle.gen_threads.proofs.trees.make_trees.Goals as goal

pub collect-requires-clause-ready : goal.collect-requires-clause-ready
collect-requires-clause-ready g c κs within =
    let ends = c.into_par_iter.ensures in
    let inside = nat_range-All (λ i. i < 16) 0 c.args.count (λ i low high. omega arith) in
    rw (c.map.ensures.base, c.map.ensures.f, c.with_min_len.ensures.base, ends.0, ends.1) (λ k d lt. (inside k d lt, λ y p. tt))

pub returns : goal.returns
returns g c =
    let ends = c.into_par_iter.ensures in
    let whole : c.args.count - 0 ≡ c.args.count = omega arith in
    let made = c.in_ok-collect.ensures in
    let chain = rw (c.map.ensures.base, c.map.ensures.f, c.with_min_len.ensures.base) at made.1 in
    let numbers = chain.1 ∙ (λ i. nat_range (ends.0 i) (ends.1 i)) ∙ ap (range_with_len 0) whole in
    let tree = general_tree c.args.master.now c.args.height in
    ok_of_match c.in_ok-collect.field-0 _ _ _ made.2 (λ trees is.
    is.2 ∙ oks_are_map _ tree chain.0 is.0 (rw is.1 at chain.2) ∙ ap (map tree) numbers)
