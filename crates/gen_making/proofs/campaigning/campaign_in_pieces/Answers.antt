use Rattle.std.proofs.Common.{◌∙◌, List, refl, subst, arith}
use Rattle.gen_scenario.specs.Scenario.{Scenario}
use Rattle.gen_making.specs.Campaigning.{AreTextsOf}
use Rattle.gen_making.proofs.RunsOf.{few_texts, makes_texts}
use Rattle.gen_making.proofs.campaigning.campaign_in_pieces.Goals as goal

pub new-requires : goal.new-requires
new-requires g c =
    let plans = c.in_ok-plans.plans.items in
    let texts = c.in_ok-texts.texts.items in
    let lawful = c.texts_make_campaigns.ensures c.args.input.now plans c.in_ok-plans.ensures.found in
    let are = subst (λ (runs : List Scenario). AreTextsOf runs texts) (c.scenarios.ensures.value ∙ c.in_ok-campaign.ensures) c.in_ok-texts.ensures in
    let few = few_texts plans texts lawful are in
    omega (arith, few)

pub returns-clause-answer : goal.returns-clause-answer
returns-clause-answer g c =
    let plans = c.in_ok-plans.plans.items in
    let texts = c.in_ok-texts.texts.items in
    let are = subst (λ (runs : List Scenario). AreTextsOf runs texts) (c.scenarios.ensures.value ∙ c.in_ok-campaign.ensures) c.in_ok-texts.ensures in
    record {
      runs = plans;
      spelled = c.in_ok-plans.ensures.found;
      makes = makes_texts plans texts c.new.result are c.new.ensures;
      positive = refl;
    }
