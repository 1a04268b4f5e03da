use Rattle.std.proofs.Common.{◌≡◌, ◌∙◌, true, List, [], map, refl, sym, ap, subst}
use Rattle.std.specs.List.{list_all}
use Rattle.gen_scenario.specs.Rows.{logs_of_all}
use Rattle.gen_scenario.specs.Scenario.{Scenario}
use Rattle.gen_campaign.specs.Series.{are_alike, ascend_from, is_like}
use Rattle.gen_campaign.specs.Leaves.{AreSpentIn}
use Rattle.gen_campaign.proofs.Testing.{alike_first, campaign_parts, like_head}
use Rattle.gen_campaign.proofs.Keeping.{all_first, all_spent}
use Rattle.gen_campaign.proofs.runs.run_campaign.Goals as goal

pub run_all-requires-clause-apart : goal.run_all-requires-clause-apart
run_all-requires-clause-apart g c κs within =
    ap (ascend_from 0) c.scenarios-scenarios.ensures.value ∙ (campaign_parts c.args.campaign.now c.args.campaign.now c.scenarios-scenarios.ensures.lawful).1

pub run_all-requires-clause-alike : goal.run_all-requires-clause-alike
run_all-requires-clause-alike g c κs within =
    let runs = c.scenarios-scenarios.result.now in
    sym (alike_first runs c.in-Some.first.now c.in-Some.field-0-1.now c.in-Some.ensures.cases.0)
    ∙ ap (λ (xs : List Scenario). are_alike xs) c.scenarios-scenarios.ensures.value
    ∙ (campaign_parts c.args.campaign.now c.args.campaign.now c.scenarios-scenarios.ensures.lawful).0

pub run_all-requires-clause-kept : goal.run_all-requires-clause-kept
run_all-requires-clause-kept g c κs within =
    let runs = c.scenarios-scenarios.result.now in
    let first = c.in-Some.first.now in
    let others = c.in-Some.field-0-1.now in
    let e = c.in-Some.ensures.cases.0 in
    let alike : list_all (is_like first) runs ≡ true =
    sym (alike_first runs first others e)
    ∙ ap (λ (xs : List Scenario). are_alike xs) c.scenarios-scenarios.ensures.value
    ∙ (campaign_parts c.args.campaign.now c.args.campaign.now c.scenarios-scenarios.ensures.lawful).0 in
    all_first first runs c.in_ok-rings.rings.items (like_head first first others runs e alike).0 c.in_ok-rings.ensures

pub returns-clause-logs : goal.returns-clause-logs
returns-clause-logs g c = c.in_ok-all.ensures.logs ∙ ap (λ (xs : List Scenario). map logs_of_all xs) c.scenarios-scenarios.ensures.value

pub returns-clause-leaves : goal.returns-clause-leaves
returns-clause-leaves g c =
    let runs = c.scenarios-scenarios.result.now in
    let first = c.in-Some.first.now in
    let others = c.in-Some.field-0-1.now in
    let e = c.in-Some.ensures.cases.0 in
    let alike : list_all (is_like first) runs ≡ true =
    sym (alike_first runs first others e)
    ∙ ap (λ (xs : List Scenario). are_alike xs) c.scenarios-scenarios.ensures.value
    ∙ (campaign_parts c.args.campaign.now c.args.campaign.now c.scenarios-scenarios.ensures.lawful).0 in
    let kept = c.in_ok-all.ensures.kept in
    subst (λ (xs : List Scenario). AreSpentIn xs c.in_ok-sets.sets.items) c.scenarios-scenarios.ensures.value
    (all_spent first runs [] kept.0 c.in_ok-all.back.items c.in_ok-sets.sets.items alike refl kept.1 c.in_ok-sets.ensures)
