-- What the job campaign writes is read by the job audit, which accepts it.
use Rattle.std.specs.Prelude.{ℕ, ◌≡◌, Bool, false, List, All, Option, None, Ok}
use Rattle.gen_log.specs.Fields.{AreBelow}
use Rattle.gen_audit.specs.Bundle.{Bundle}
use Rattle.gen_campaign.specs.Campaign.{CampaignBundle}
use Rattle.gen_campaign.specs.CampaignReading.{whole_campaign}
use Rattle.gen_jobs.specs.Accepted.{IsSound, IsSoundIf}
use Rattle.gen_json.specs.OriginData.{Origin}
use Rattle.gen_judging.specs.Asking.{IsAuditedBy, IsAuditedFrom}
use Rattle.gen_making.specs.Campaigning.{IsCampaignRun}
use Rattle.gen_judging.specs.Origins.{nothing_asked}
use Rattle.gen_asked.specs.declared.asked.Asked.{Asked}
use Rattle.gen_asked.specs.declared.faulty.Faulty.TheVariants.{Listed}
use Rattle.gen_asked.specs.declared.forms.Form.TheVariants.{Text}

-- the bundles of the runs of a campaign, as a `CampaignBundle`
abbrev pub together : List Bundle → CampaignBundle
together bundles = record { alone = false; bundles = bundles }

-- what the job campaign writes is read as the bundles of its runs
abbrev pub CampaignsAreRead : Type 0
CampaignsAreRead =
    (input text : List ℕ) (said : Bool) (run : IsCampaignRun input text said) → AreBelow 256 text
    → whole_campaign text ≡ Ok (together run.makes.0)

-- if each of its scenarios is sound, what the job audit makes of the output of the job campaign does not say
-- no
abbrev pub CampaignsAreAccepted : Type 0
CampaignsAreAccepted =
    (input text report : List ℕ) (said negative : Bool) (run : IsCampaignRun input text said)
    → AreBelow 256 text → All IsSound run.runs
    → IsAuditedBy nothing_asked Text false None text report negative → negative ≡ false

-- the same of the job audit in any form, wherever its answer is said to come from, of any runs that are asked
-- for, and asked strictly or not, if no other list of faulty generals is asked for
abbrev pub CampaignsAreAcceptedBy : Type 0
CampaignsAreAcceptedBy =
    (input text report : List ℕ) (said negative : Bool) (asked : Asked) (origin : Option Origin)
    (strict : Bool) (run : IsCampaignRun input text said) → AreBelow 256 text → All IsSound run.runs
    → All (IsSoundIf strict) run.runs → asked.faulty ≡ Listed
    → IsAuditedFrom asked origin strict text report negative → negative ≡ false
