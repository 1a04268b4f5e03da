use Rattle.std.proofs.Common.{List, Contains, take, [], ◌∷◌, ◌++◌, ap, sym, subst, inl, inr, ◌∙◌}
use Rattle.std.proofs.lemmas.List.{take_more, take_all}
use Rattle.std.proofs.lemmas.List.Elements.{Contains-push_cases}
use Rattle.gen_scenario.specs.Scenario.{IsScenario, Scenario}
use Rattle.gen_campaign.proofs.OneTexts.{one_text_each}
use Rattle.gen_campaign.proofs.Testing.{campaign_parts}
use Rattle.gen_campaign.proofs.runs.note_texts.Goals as goal

pub loop-scenario-preserved : goal.loop-scenario-preserved
loop-scenario-preserved c = λ s k.
    let xs = c.scenarios-scenarios.result.now in
    let i = c.loop-scenario.scenario-index in
    let x = c.scenario-item.result in
    let longer = take_more xs i x c.loop-scenario-test.true ∙ ap (λ y. take i xs ++ y ∷ []) (sym c.scenario-item.is) in
    elim (Contains-push_cases (take i xs) x s (subst (λ ys. Contains ys s) longer k)) [
      | inl old ↦ c.loop-scenario.invariant s old
      | inr e ↦ subst (λ (y : Scenario). IsScenario y) e c.header-header.ensures.scenario
    ]

pub returns : goal.returns
returns c =
    let runs = c.args.campaign.now in
    let all = take_all c.loop-scenario.scenario-index c.scenarios-scenarios.result.now c.loop-scenario-test.false ∙ c.scenarios-scenarios.ensures.value in
    one_text_each runs (λ s k. c.loop-scenario.invariant s (subst (λ (ys : List Scenario). Contains ys s) (sym all) k)) (campaign_parts runs runs c.scenarios-scenarios.ensures.lawful).1
