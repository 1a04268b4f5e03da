-- What the job run makes of its input.
use Rattle.std.specs.Prelude.{◌≡◌, ◌+◌, ◌⊎◌, ℕ, Bool, false, List, length, Err}
use Rattle.gen_net.specs.Network.{Network}
use Rattle.gen_scenario.specs.Scenario.{Plain, Scenario}
use Rattle.gen_audit.specs.BundleSpelling.{bundle_spelling}
use Rattle.gen_audit.specs.WorldBundle.{HasWalks, bundle_of}
use Rattle.gen_audit.specs.Bundle.{Bundle}
use Rattle.gen_text.specs.declared.fault.LineFault.TheVariants.{BadSeed}
use Rattle.gen_text.specs.declared.fault.ScenarioFault.{ScenarioFault}
use Rattle.gen_text.specs.declared.scenario_text.ScenarioText.TheVariants as texts
use Rattle.gen_text.specs.LineReading.{fault_at}
use Rattle.gen_text.specs.Scenario.{SpellsScenario}
use Rattle.gen_text.specs.ScenarioReading.{scenario_of}
use Rattle.gen_ends.specs.declared.ends.JobFault.{JobFault}
use Rattle.gen_ends.specs.declared.ends.JobFault.TheVariants as faults

-- The text spells the bundle of the run of the scenario that the input spells. It never says no.
pub record IsRunAnswer (input text : List ℕ) (negative : Bool) : Type 0 where
  pub scenario : Scenario
  pub spelled : SpellsScenario input (texts.Signed scenario)
  pub walks : List (List ℕ)
  pub has_walks : HasWalks scenario walks
  pub text_is : text ≡ bundle_spelling (bundle_of scenario walks)
  pub positive : negative ≡ false

-- The number of the line after that of the commander's order in a scenario text. The lines before it are
-- `generals`, one for each edge, `traitors`, `diameter`, `orders`, `choice` and `order`.
abbrev pub line_after_order : Network → ℕ
line_after_order net = length net.edges + 7

-- the input spells a scenario without a seed, and the fault is that it is missing at the line after the
-- order's
pub record MissesSeed (input : List ℕ) (fault : ScenarioFault) : Type 0 where
  pub plain : Plain
  pub spelled : SpellsScenario input (texts.Plain plain)
  pub fault_is : fault ≡ fault_at BadSeed (line_after_order plain.net)

-- the bundle is the one of the scenario's run
abbrev pub IsOfRun : Scenario → Bundle → Type 0
IsOfRun s bundle = (walks : List (List ℕ)) × HasWalks s walks × (bundle ≡ bundle_of s walks)

-- The first fault of an input that spells no scenario, or a missing seed; or memory was refused, or a thread
-- was.
abbrev pub IsRunFault : List ℕ → JobFault → Type 0
IsRunFault input faults.Memory = Unit {0}
IsRunFault input faults.Thread = Unit {0}
IsRunFault input (faults.Scenario f) = (scenario_of input ≡ Err f) ⊎ MissesSeed input f
IsRunFault input _ = ⊥
