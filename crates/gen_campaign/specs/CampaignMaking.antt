-- The scenarios of a campaign's text make a campaign.
use Rattle.std.specs.Prelude.{ℕ, ◌≡◌, List, Ok}
use Rattle.gen_scenario.specs.Scenario.{Scenario}
use Rattle.gen_campaign.specs.Series.{campaign_of}
use Rattle.gen_campaign.specs.CampaignText.{SpellsCampaignText}

-- the scenarios that a text spells keep each rule of campaigns
abbrev pub TextsMakeCampaigns : Type 0
TextsMakeCampaigns =
    (text : List ℕ) (runs : List Scenario) → SpellsCampaignText text runs → campaign_of runs ≡ Ok runs
