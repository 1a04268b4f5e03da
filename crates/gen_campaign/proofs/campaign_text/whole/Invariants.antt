use Rattle.std.proofs.Common.{◌≡◌, ◌-◌, [], All}
use Rattle.gen_scenario.specs.Scenario.{IsScenario}
use Rattle.gen_campaign.specs.CampaignTextReading.{texts_at}
use Rattle.gen_campaign.proofs.TextLoop.{with_front}
use Rattle.gen_campaign.proofs.campaign_text.whole.Given as goal

abbrev pub invariant-loop-place : goal.invariant-loop-place
invariant-loop-place l = record {
  read : with_front l.plans.items (texts_at l.plans.items (l._place-end - l._place) l.cursor) ≡ texts_at [] l._place-end l.initial.cursor;
  lawful : All IsScenario l.plans.items;
}
