-- What the job decide makes of its input.
use Rattle.std.specs.Prelude.{◌≡◌, ℕ, Bool, false, List, [], map, replicate, Some, None, Err}
use Rattle.serde_json.specs.Data.{Data}
use Rattle.gen_net.specs.Header.{run_id_of}
use Rattle.gen_scenario.specs.Scenario.{Scenario, header_of, scripted}
use Rattle.gen_scenario.specs.Deciding.{decisions_of, with_keys}
use Rattle.gen_text.specs.declared.scenario_text.ScenarioText.{ScenarioText}
use Rattle.gen_text.specs.declared.scenario_text.ScenarioText.TheVariants as texts
use Rattle.gen_text.specs.Scenario.{SpellsScenario}
use Rattle.gen_text.specs.ScenarioReading.{scenario_of}
use Rattle.gen_report.specs.Decisions.{decisions_text}
use Rattle.gen_facts.specs.Facts.{decided_fact}
use Rattle.gen_facts.specs.declared.fact.Fact.{Fact}
use Rattle.gen_json.specs.DecisionData.{decisions_data}
use Rattle.gen_json.specs.Line.{json_line}
use Rattle.gen_ends.specs.declared.ends.JobFault.{JobFault}
use Rattle.gen_ends.specs.declared.ends.JobFault.TheVariants as faults
use Rattle.gen_asked.specs.declared.forms.Form.{Form}
use Rattle.gen_asked.specs.declared.forms.Form.TheVariants.{Text, Json}

-- The scenario whose run decides. For a text without a seed it is the one whose seed is 32 zero bytes. Any
-- other seed gives the same decisions.
abbrev pub scenario_told : ScenarioText → Scenario
scenario_told (texts.Plain plain) = with_keys plain (replicate 32 0)
scenario_told (texts.Signed scenario) = scenario

-- The object of the decisions in the run of a scenario. Without a seed there is no run id, and nobody has a
-- script.
abbrev pub told_data : ScenarioText → Data
told_data (texts.Plain plain) =
    decisions_data plain.net None [] (decisions_of (scenario_told (texts.Plain plain)))
told_data (texts.Signed scenario) =
    decisions_data scenario.net (Some (run_id_of (header_of scenario))) (scripted scenario.scripts)
    (decisions_of scenario)

-- what the generals without scripts decide in the run of a scenario, in a form
abbrev pub told_text : Form → ScenarioText → List ℕ
told_text Text told = decisions_text (decisions_of (scenario_told told))
told_text Json told = json_line (told_data told)

-- The text says in this form what the generals without scripts decide in the run of the scenario that the
-- input spells. It never says no.
pub record IsDecidedIn (form : Form) (input text : List ℕ) (negative : Bool) : Type 0 where
  pub told : ScenarioText
  pub spelled : SpellsScenario input told
  pub text_is : text ≡ told_text form told
  pub positive : negative ≡ false

-- the first fault of an input that spells no scenario; or memory was refused
abbrev pub IsDecideFault : List ℕ → JobFault → Type 0
IsDecideFault input faults.Memory = Unit {0}
IsDecideFault input (faults.Scenario f) = scenario_of input ≡ Err f
IsDecideFault input _ = ⊥

-- the facts of what the generals without scripts decide in the run of a scenario
abbrev pub told_facts : ScenarioText → List Fact
told_facts told = map decided_fact (decisions_of (scenario_told told))

-- the input spells a scenario, and the facts are those of the decisions in its run
pub record DecidedFacts (input : List ℕ) (facts : List Fact) : Type 0 where
  pub told : ScenarioText
  pub spelled : SpellsScenario input told
  pub facts_are : facts ≡ told_facts told
