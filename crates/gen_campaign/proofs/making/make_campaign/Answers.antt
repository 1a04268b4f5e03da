use Rattle.std.proofs.Common.{rules, ◌≡◌, List, Some, map, slice_get, subst}
use Rattle.std.specs.List.{range_with_len}
use Rattle.gen_types.specs.declared.heights.TreeHeight.TheVariants.{Six}
use Rattle.gen_scenario.specs.Scenario.{Scenario}
use Rattle.gen_scenario.specs.Trees.{general_tree}
use Rattle.gen_campaign.proofs.Serving.{trees_serve}
use Rattle.gen_campaign.proofs.making.make_campaign.Goals as goal

pub make_scenarios-requires : goal.make_scenarios-requires
make_scenarios-requires g c = λ plan h.
    let runs = c.args.plans.items in
    let first = c.in-Some.first.now in
    let item : Some first ≡ slice_get runs 0 = subst (λ (xs : List Scenario). Some first ≡ slice_get xs 0) c.deref.ensures.value c.in-Some.ensures.value in
    let trees : c.in_ok-trees.trees.items ≡ map (general_tree first.master Six) (range_with_len 0 first.net.generals) = search rules in
    trees_serve runs first plan c.in_ok-trees.trees.items item c.requires h trees
