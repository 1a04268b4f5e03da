use Rattle.std.proofs.Common.{Contains, take}
use Rattle.gen_scenario.specs.Scenario.{IsScenario, Scenario}
use Rattle.gen_campaign.proofs.runs.note_texts.Given as goal

abbrev pub invariant-loop-scenario : goal.invariant-loop-scenario
invariant-loop-scenario l = (s : Scenario) → Contains (take l.scenario-index l.scenarios) s → IsScenario s
