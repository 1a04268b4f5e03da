-- What the job judge makes of a scenario.
use Rattle.std.specs.Prelude.{ℕ, Bool, List, Option}
use Rattle.gen_plan.specs.EqualRoots.{equal_roots}
use Rattle.gen_scenario.specs.Scenario.{Scenario, header_of, scripted}
use Rattle.gen_text.specs.Scenario.{SpellsScenario}
use Rattle.gen_text.specs.declared.scenario_text.ScenarioText.TheVariants as texts
use Rattle.gen_audit.specs.WorldBundle.{HasWalks, bundle_of}
use Rattle.gen_json.specs.OriginData.{Origin}
use Rattle.gen_judging.specs.Asking.{Counts, has_few}
use Rattle.gen_judging.specs.Audit.{Audits}
use Rattle.gen_judging.specs.Origins.{nothing_asked, origin_in}
use Rattle.gen_asked.specs.declared.forms.Form.{Form}

-- The text is that of the judgement on the bundle of the scenario's run: as text, or as JSON with where the
-- answer comes from.
pub record JudgesRun (origin : Option Origin) (s : Scenario) (text : List ℕ) (negative : Bool)
    : Type 0 where
  pub walks : List (List ℕ)
  pub has_walks : HasWalks s walks
  pub audits : Audits origin (bundle_of s walks) text negative

-- The text is that of the judgement on the bundle of the scenario's run: as text, or as JSON with where the
-- answer comes from. And this is whether it counts as a no.
abbrev pub JudgesRunAs : Option Origin → Bool → Scenario → List ℕ → Bool → Type 0
JudgesRunAs origin strict s text negative =
    Counts origin strict (has_few s.net (scripted s.scripts)) (equal_roots (header_of s)) (JudgesRun origin s)
    text negative

-- The text is that of the judgement on the run of the scenario that the input spells: as text, or as JSON
-- with where the answer comes from. And this is whether it counts as a no.
pub record IsJudgedFrom (origin : Option Origin) (strict : Bool) (input text : List ℕ) (negative : Bool)
    : Type 0 where
  pub scenario : Scenario
  pub spelled : SpellsScenario input (texts.Signed scenario)
  pub judges : JudgesRunAs origin strict scenario text negative

-- the same in a form, of an input with this name
abbrev pub IsJudgedAs : Form → Bool → Option (List ℕ) → List ℕ → List ℕ → Bool → Type 0
IsJudgedAs form strict name input text negative =
    IsJudgedFrom (origin_in form name nothing_asked input) strict input text negative
