-- The trees of the first scenario's keys serve all scenarios of a campaign.
use Rattle.std.proofs.Common.{◌≡◌, ◌∙◌, ℕ, true, List, [], ◌∷◌, Contains, Option, Some, None, Ok, map, refl, sym, ap, slice_get}
use Rattle.std.specs.List.{list_all, range_with_len}
use Rattle.gen_types.specs.declared.heights.TreeHeight.TheVariants.{Six}
use Rattle.gen_tree.specs.Rings.{KeyTree}
use Rattle.gen_net.specs.Version.{height_in}
use Rattle.gen_scenario.specs.Scenario.{Scenario}
use Rattle.gen_scenario.specs.Trees.{general_tree}
use Rattle.gen_campaign.specs.Series.{campaign_of, is_like}
use Rattle.gen_campaign.proofs.Testing.{alike_first, campaign_parts, like_each, like_parts}

split_at_first : (runs : List Scenario) (x : Scenario) → Some x ≡ slice_get runs 0 → (others : List Scenario) × (runs ≡ x ∷ others)
split_at_first [] x e = absurd cc
split_at_first (y ∷ ys) x e = let same : x ≡ y = cc in (ys, ap (λ (z : Scenario). z ∷ ys) (sym same))

pub trees_serve : (runs : List Scenario) (first plan : Scenario) (trees : List KeyTree) → Some first ≡ slice_get runs 0 → campaign_of runs ≡ Ok runs → Contains runs plan
    → trees ≡ map (general_tree first.master Six) (range_with_len 0 first.net.generals) → trees ≡ map (general_tree plan.master (height_in plan.version)) (range_with_len 0 plan.net.generals)
trees_serve runs first plan trees at ok h is =
    let split = split_at_first runs first at in
    let alike : list_all (is_like first) runs ≡ true = sym (alike_first runs first split.0 split.1) ∙ (campaign_parts runs runs ok).0 in
    let like = like_parts first plan (like_each first runs plan alike h) in
    is ∙ (λ i. map (general_tree (sym like.master i) (sym like.height i)) (range_with_len 0 (sym like.generals i)))
