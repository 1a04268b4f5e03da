-- The judgement on the bundle of a scenario's run, as the job judge writes it.
use Rattle.std.proofs.Common.{◌≡◌, ◌↔◌, ◌∙◌, ℕ, Bool, false, List, ap, map, sym, subst}
use Rattle.std.specs.Prelude.{Option}
use Rattle.gen_convict.specs.Convictions.{AreConvictions, ConvictsWhereHeld}
use Rattle.gen_convict.specs.Evidence.{Accusation, told_of}
use Rattle.gen_scenario.specs.Scenario.{Scenario, IsScenario, scripted}
use Rattle.gen_log.specs.Fields.{AreBelow}
use Rattle.gen_audit.specs.Bundle.{Bundle}
use Rattle.gen_audit.specs.BundleParts.{AreListedWalks}
use Rattle.gen_audit.specs.Headline.{Headline}
use Rattle.gen_audit.specs.Supported.{IsSupported}
use Rattle.gen_audit.specs.Verdict.{IsVerdict}
use Rattle.gen_audit.specs.WorldBundle.{AreWalksOfRun, HasWalks, bundle_of}
use Rattle.gen_audit.specs.declared.verdicts.Judgement.{Judgement}
use Rattle.gen_audit.specs.declared.verdicts.Verdict.{Verdict}
use Rattle.gen_campaign.specs.Judged.{IsJudged}
use Rattle.gen_making.specs.Run.{IsOfRun}
use Rattle.gen_audit.proofs.RunBundles.{are_listed, are_members}
use Rattle.gen_judging.specs.Audit.{is_no, judgement_text}
use Rattle.gen_jobs.specs.Judging.{JudgesRun}
use Rattle.gen_json.specs.OriginData.{Origin}
use Rattle.gen_jobs.proofs.Audited.{supported}

-- what is said of a verdict, its convictions and their text makes it the judgement
pub judges : (origin : Option Origin) (s : Scenario) (walks : List (List ℕ)) → HasWalks s walks → (v : Verdict) (cs : List Accusation) (text : List ℕ) (negative : Bool)
    → IsVerdict (bundle_of s walks) v → Headline (bundle_of s walks) v
    → AreConvictions (bundle_of s walks).header (bundle_of s walks).exhibits cs
    → ConvictsWhereHeld (bundle_of s walks).header (bundle_of s walks).exhibits cs
    → text ≡ judgement_text origin (bundle_of s walks) v cs → negative ≡ is_no v → JudgesRun origin s text negative
judges origin s walks has v cs text negative judged headline convicted held text_is negative_is =
    let is : (negative ≡ false) ↔ IsSupported (bundle_of s walks) = subst (λ (b : Bool). (b ≡ false) ↔ IsSupported (bundle_of s walks)) (sym negative_is) (supported (bundle_of s walks) v headline) in
    record {
      walks = walks;
      has_walks = has;
      audits = record {
        verdict = v;
        judged = judged;
        headline = headline;
        convictions = cs;
        convicted = convicted;
        held = held;
        text_is = text_is;
        negative_is = negative_is;
        supported = is;
      };
    }

-- so does the judgement on the bundle of the run, with its text
pub judged_of : (origin : Option Origin) (s : Scenario) (b : Bundle) (j : Judgement) (text : List ℕ) (negative : Bool) → IsOfRun s b → IsJudged b j
    → text ≡ judgement_text origin b j.verdict (map told_of j.convictions.items) → negative ≡ is_no j.verdict → JudgesRun origin s text negative
judged_of origin s b j text negative run judged text_is negative_is =
    let own : IsJudged (bundle_of s run.0) j = subst (λ (x : Bundle). IsJudged x j) run.2 judged in
    judges origin s run.0 run.1 j.verdict (map told_of j.convictions.items) text negative own.verdict own.headline own.convictions own.held
    (text_is ∙ ap (λ (x : Bundle). judgement_text origin x j.verdict (map told_of j.convictions.items)) run.2)
    negative_is

-- those who have scripts, and the walks of a run, can stand in a bundle
pub scripted_below : (s : Scenario) → IsScenario s → AreBelow s.net.generals (scripted s.scripts)
scripted_below s ok = (are_members s ok).below

pub walks_listed : (s : Scenario) (rest : List ℕ) (walks : List (List ℕ)) → IsScenario s → AreWalksOfRun s.net rest walks → AreListedWalks s.net.generals walks
walks_listed s rest walks ok are = are_listed s rest walks ok are
