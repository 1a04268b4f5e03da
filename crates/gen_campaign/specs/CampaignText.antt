-- Which texts spell a campaign. How a text is read is told elsewhere, in CampaignTextReading.
use Rattle.std.specs.Prelude.{ℕ, ◌≡◌, ◌≤◌, ◌<◌, List, [], ◌∷◌, ◌++◌, length, codes, All, AllPairs}
use Rattle.gen_net.specs.Version.{slot_in}
use Rattle.gen_scenario.specs.Scenario.{Scenario}
use Rattle.gen_campaign.specs.Campaign.{IsSecond, fewest_runs, most_runs}
use Rattle.gen_text.specs.declared.scenario_text.ScenarioText.TheVariants as texts
use Rattle.gen_text.specs.Fields.{line_of, said}
use Rattle.gen_text.specs.Scenario.{SpellsScenario}

-- the second scenario may stand behind the first in a campaign: both have the same number of generals and
-- the same seed, and the slot of the second is greater
pub record MayPrecede (s t : Scenario) : Type 0 where
  pub generals : s.net.generals ≡ t.net.generals
  pub seed : s.master ≡ t.master
  pub slot : slot_in s.version < slot_in t.version

-- the scenario is of version 2, which has slots
abbrev pub HasSlot : Scenario → Type 0
HasSlot s = IsSecond s.version

-- 1 to 4 scenarios of version 2, each of which may stand behind each scenario before it
pub record AreOneCampaign (runs : List Scenario) : Type 0 where
  pub some : fewest_runs ≤ length runs
  pub few : length runs ≤ most_runs
  pub slots : All HasSlot runs
  pub ordered : AllPairs MayPrecede runs

-- The text is made of texts that spell these scenarios, one after another.
abbrev pub SpellsTexts : List ℕ → List Scenario → Type 0
SpellsTexts text [] = text ≡ []
SpellsTexts text (s ∷ others) =
    (one rest : List ℕ) × (text ≡ one ++ rest) × SpellsScenario one (texts.Signed s) × SpellsTexts rest others

-- The text spells these scenarios: it is a line with their number, and behind it their texts.
pub record SpellsCampaignText (text : List ℕ) (runs : List Scenario) : Type 0 where
  pub behind : List ℕ
  pub text_is : text ≡ line_of (said (codes "campaign") (length runs)) ++ 10 ∷ behind
  pub texts_are : SpellsTexts behind runs
  pub lawful : AreOneCampaign runs

-- a text spells at most one campaign
abbrev pub OneCampaignText : Type 0
OneCampaignText =
    (text : List ℕ) (runs others : List Scenario) → SpellsCampaignText text runs
    → SpellsCampaignText text others → runs ≡ others
