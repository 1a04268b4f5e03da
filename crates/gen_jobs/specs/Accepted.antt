-- What the job run writes is read by the job audit, which accepts it, and judges it as the job judge does.
use Rattle.std.specs.Prelude.{ℕ, ◌≡◌, ◌≤◌, Bool, true, false, List, [], ◌∷◌, length, Option, None, Ok}
use Rattle.gen_types.specs.Ascending.{IsListOf}
use Rattle.gen_net.specs.Network.{IsLoyal}
use Rattle.gen_walks.specs.Walks.{IsWithinDiameter}
use Rattle.gen_log.specs.Fields.{AreBelow}
use Rattle.gen_plan.specs.EqualRoots.{equal_roots}
use Rattle.gen_scenario.specs.Scenario.{Scenario, header_of, scripted}
use Rattle.gen_scenario.specs.SignedLaw.{HasNoRaw}
use Rattle.gen_audit.specs.Bundle.{Bundle}
use Rattle.gen_audit.specs.BundleReading.{whole_bundle}
use Rattle.gen_campaign.specs.Campaign.{CampaignBundle}
use Rattle.gen_campaign.specs.CampaignReading.{whole_campaign}
use Rattle.gen_audit.specs.WorldBundle.{bundle_of}
use Rattle.gen_json.specs.OriginData.{Origin}
use Rattle.gen_judging.specs.Asking.{IsAuditedBy, IsAuditedFrom}
use Rattle.gen_jobs.specs.Judging.{IsJudgedFrom}
use Rattle.gen_judging.specs.Origins.{nothing_asked}
use Rattle.gen_making.specs.Run.{IsRunAnswer}
use Rattle.gen_asked.specs.declared.asked.Asked.{Asked}
use Rattle.gen_asked.specs.declared.faulty.Faulty.TheVariants.{Listed}
use Rattle.gen_asked.specs.declared.forms.Form.TheVariants.{Text}

-- a bundle that stands alone, as a `CampaignBundle`
abbrev pub alone : Bundle → CampaignBundle
alone b = record { alone = true; bundles = b ∷ [] }

-- what the job run writes is read as the bundle of its run, and as one that stands alone
abbrev pub RunsAreRead : Type 0
RunsAreRead =
    (input text : List ℕ) (said : Bool) (run : IsRunAnswer input text said) → AreBelow 256 text
    → (whole_bundle text ≡ Ok (bundle_of run.scenario run.walks))
    × (whole_campaign text ≡ Ok (alone (bundle_of run.scenario run.walks)))

-- no script has a raw line, some general has no script, and any two generals without one are joined inside
-- these by at most d edges
pub record IsSound (s : Scenario) : Type 0 where
  pub no_raw : HasNoRaw s
  pub somebody : (g : ℕ) × IsLoyal s.net (scripted s.scripts) g
  pub joined : (rest : List ℕ) → IsListOf rest (IsLoyal s.net (scripted s.scripts))
      → IsWithinDiameter s.net rest

-- if the scenario is sound, what the job audit makes of the output of the job run does not say no
abbrev pub RunsAreAccepted : Type 0
RunsAreAccepted =
    (input text report : List ℕ) (said negative : Bool) (run : IsRunAnswer input text said)
    → AreBelow 256 text → IsSound run.scenario
    → IsAuditedBy nothing_asked Text false None text report negative → negative ≡ false

-- at most m generals have scripts, and no two generals have the same root
pub record IsStrictlySound (s : Scenario) : Type 0 where
  pub few : length (scripted s.scripts) ≤ s.net.traitors
  pub apart : equal_roots (header_of s) ≡ []

-- if it is asked strictly, the scenario is so
abbrev pub IsSoundIf : Bool → Scenario → Type 0
IsSoundIf strict s = strict ≡ true → IsStrictlySound s

-- The same of the job audit in any form, wherever its answer is said to come from, of any runs that are asked
-- for, and asked strictly or not: it does not say no, if no other list of faulty generals is asked for.
abbrev pub RunsAreAcceptedBy : Type 0
RunsAreAcceptedBy =
    (input text report : List ℕ) (said negative : Bool) (asked : Asked) (origin : Option Origin)
    (strict : Bool) (run : IsRunAnswer input text said) → AreBelow 256 text → IsSound run.scenario
    → IsSoundIf strict run.scenario → asked.faulty ≡ Listed
    → IsAuditedFrom asked origin strict text report negative → negative ≡ false

-- what the job audit makes of the output of the job run is what the job judge makes of the same input
abbrev pub RunsAreJudged : Type 0
RunsAreJudged =
    (input text report : List ℕ) (said negative : Bool) → IsRunAnswer input text said → AreBelow 256 text
    → IsAuditedBy nothing_asked Text false None text report negative
    → IsJudgedFrom None false input report negative

-- the same in any form, wherever the answer is said to come from, of any runs that are asked for, and asked
-- strictly or not, if no other list of faulty generals is asked for
abbrev pub RunsAreJudgedBy : Type 0
RunsAreJudgedBy =
    (input text report : List ℕ) (said negative : Bool) (asked : Asked) (origin : Option Origin)
    (strict : Bool) → IsRunAnswer input text said → AreBelow 256 text → asked.faulty ≡ Listed
    → IsAuditedFrom asked origin strict text report negative
    → IsJudgedFrom origin strict input report negative
