-- If no script has a raw parcel, no loyal signature is forged in the run of a scenario, whatever is known of
-- the hash. So Theorem 4 holds of such runs, with their traitors.
use Rattle.std.specs.Prelude.{◌≡◌, ◌≤◌, List, length, Contains}
use Rattle.gen_net.specs.Network.{IsLoyal}
use Rattle.gen_net.specs.Walks.{HasDiameter}
use Rattle.gen_net.specs.Signed.{IsSignedRun}
use Rattle.gen_script.specs.declared.lines.ScriptLine.{ScriptLine}
use Rattle.gen_script.specs.declared.lines.ScriptLine.TheVariants.{Raw}
use Rattle.gen_script.specs.Script.{Script}
use Rattle.gen_scenario.specs.declared.scenario.Decision.{Decision}
use Rattle.gen_scenario.specs.Deciding.{decisions_of}
use Rattle.gen_scenario.specs.Scenario.{Scenario, IsScenario, scripted}
use Rattle.gen_scenario.specs.SignedWorld.{messages_of}
use Rattle.gen_scenario.specs.WorldFollows.{AllDecide}
use Rattle.gen_scenario.specs.WorldLaws.{conduct_of}

-- the line is a `raw` line, which sends its own bytes
abbrev pub IsRaw : ScriptLine → Type 0
IsRaw (Raw round to parcel) = Unit {0}
IsRaw _ = ⊥

-- no script has a `raw` line
abbrev pub HasNoRaw : Scenario → Type 0
HasNoRaw s =
    (script : Script) (line : ScriptLine) → Contains s.scripts script → Contains script.lines line
    → IsRaw line → ⊥

-- if there is no `raw` line, the messages are a run in which the generals with scripts are faulty and each of
-- their messages is derivable
abbrev pub NoRawIsSigned : Type 0
NoRawIsSigned =
    (s : Scenario) → IsScenario s → HasNoRaw s
    → IsSignedRun s.net (scripted s.scripts) (messages_of s) (conduct_of s)

-- What the theorem asks of a scenario: there are at most m traitors, and no script has a `raw` line. Any two
-- generals of the rest are joined inside the rest by at most d edges.
pub record IsBounded (s : Scenario) : Type 0 where
  pub few : length s.scripts ≤ s.net.traitors
  pub no_raw : HasNoRaw s
  pub diameter : HasDiameter s.net (scripted s.scripts)

-- these decisions are all of one order, which is the scenario's order if the commander has no script
pub record AreAlike (s : Scenario) (decisions : List Decision) : Type 0 where
  pub alike : (a b : Decision) → Contains decisions a → Contains decisions b → a.order ≡ b.order
  pub obeyed : IsLoyal s.net (scripted s.scripts) 0 → AllDecide s.order decisions

-- in every such scenario the rest decide alike (Theorem 4 of section 5 of the paper of 1982)
abbrev pub TheoremHoldsOfScenarios : Type 0
TheoremHoldsOfScenarios = (s : Scenario) → IsScenario s → IsBounded s → AreAlike s (decisions_of s)
