-- What the job campaign makes of its input.
use Rattle.std.specs.Prelude.{ℕ, ◌≡◌, Bool, false, List, Err}
use Rattle.std.specs.List.{AllZip}
use Rattle.gen_scenario.specs.Scenario.{Scenario}
use Rattle.gen_audit.specs.Bundle.{Bundle}
use Rattle.gen_audit.specs.BundleSpelling.{bundle_spelling}
use Rattle.gen_campaign.specs.CampaignSpelling.{campaign_spelling}
use Rattle.gen_campaign.specs.CampaignText.{SpellsCampaignText}
use Rattle.gen_campaign.specs.CampaignTextReading.{campaign_text_of}
use Rattle.gen_making.specs.Run.{IsOfRun}
use Rattle.gen_ends.specs.declared.ends.JobFault.{JobFault}
use Rattle.gen_ends.specs.declared.ends.JobFault.TheVariants as faults

-- each bundle is the one of the run of its scenario
abbrev pub AreBundlesOf : List Scenario → List Bundle → Type 0
AreBundlesOf runs bundles = AllZip IsOfRun runs bundles

-- the text is that of the bundle of the run of this scenario
abbrev pub IsTextOf : Scenario → List ℕ → Type 0
IsTextOf s text = (bundle : Bundle) × IsOfRun s bundle × (text ≡ bundle_spelling bundle)

-- each text is that of the bundle of the run of its scenario
abbrev pub AreTextsOf : List Scenario → List (List ℕ) → Type 0
AreTextsOf runs texts = AllZip IsTextOf runs texts

-- the text spells the bundles of the runs of these scenarios
abbrev pub MakesTexts : List Scenario → List ℕ → Type 0
MakesTexts runs text =
    (bundles : List Bundle) × AreBundlesOf runs bundles
    × (text ≡ campaign_spelling (record { alone = false; bundles = bundles }))

-- The text spells the bundles of the runs of the campaign that the input spells. It never says no.
pub record IsCampaignRun (input text : List ℕ) (negative : Bool) : Type 0 where
  pub runs : List Scenario
  pub spelled : SpellsCampaignText input runs
  pub makes : MakesTexts runs text
  pub positive : negative ≡ false

-- the first fault of an input that spells no campaign; or memory was refused, or a thread was
abbrev pub IsCampaignFault : List ℕ → JobFault → Type 0
IsCampaignFault input faults.Memory = Unit {0}
IsCampaignFault input faults.Thread = Unit {0}
IsCampaignFault input (faults.Scenario f) = campaign_text_of input ≡ Err f
IsCampaignFault input _ = ⊥
