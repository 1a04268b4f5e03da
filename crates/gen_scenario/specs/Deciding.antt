-- What generals decide.
use Rattle.std.specs.Prelude.{ℕ, ◌≡◌, not, List, [], ◌∷◌, map, filter, All, Option, Some, None}
use Rattle.std.specs.List.{range_with_len}
use Rattle.gen_net.specs.Network.{Network, rounds, choose}
use Rattle.gen_net.specs.declared.version.Version.TheVariants.{One}
use Rattle.gen_scenario.specs.declared.scenario.Decision.{Decision}
use Rattle.gen_scenario.specs.declared.heard.Heard.{Heard}
use Rattle.gen_scenario.specs.Scenario.{Plain, Scenario, IsScenario, has_script}
use Rattle.gen_scenario.specs.Heard.{orders_heard}
use Rattle.gen_scenario.specs.SignedWorld.{own_order, heard_by, messages_of}
use Rattle.gen_scenario.specs.World.{IsDecision, IsOutcome}

-- the commander decides its own order alone; a lieutenant decides the choice from the orders that it heard
abbrev pub decided_by : Network → ℕ → Option ℕ → List Heard → Decision
decided_by net me (Some order) heard = record { general = me; orders = order ∷ []; order = order }
decided_by net me None heard = record {
  general = me;
  orders = orders_heard net.orders heard;
  order = choose net (orders_heard net.orders heard);
}

-- the decision of a general of the scenario after the last round
abbrev pub decision_of : Scenario → ℕ → Decision
decision_of s g = decided_by s.net g (own_order s g) (heard_by s (rounds s.net) g)

-- the generals without a script, in ascending order
abbrev pub followers_of : Scenario → List ℕ
followers_of s = filter (λ g. not (has_script s g)) (range_with_len 0 s.net.generals)

-- the decisions of these generals
abbrev pub decisions_of : Scenario → List Decision
decisions_of s = map (decision_of s) (followers_of s)

-- each of these decisions is the decision of its general in the run of the scenario
abbrev pub DecisionsHold : Type 0
DecisionsHold =
    (s : Scenario) → IsScenario s → All (IsDecision s.net s.order (messages_of s)) (decisions_of s)

-- if nobody has a script, these are the decisions of the plain scenario
abbrev pub PlainDecisions : Type 0
PlainDecisions = (s : Scenario) → IsScenario s → s.scripts ≡ [] → IsOutcome s.net s.order (decisions_of s)

-- a plain scenario has one list of decisions
abbrev pub OneOutcome : Type 0
OneOutcome =
    (net : Network) (order : ℕ) (decisions others : List Decision) → IsOutcome net order decisions
    → IsOutcome net order others
    → decisions ≡ others

-- the scenario with signatures of a plain scenario: of version 1, with the keys of a master seed, and without
-- scripts
abbrev pub with_keys : Plain → List ℕ → Scenario
with_keys plain master =
    record { version = One; net = plain.net; master = master; order = plain.order; scripts = [] }

-- these decisions of a plain scenario are also those of the scenario with signatures, whatever the master
-- seed
abbrev pub AreSignedDecisions : Plain → List Decision → Type 0
AreSignedDecisions plain decisions = (master : List ℕ) → decisions ≡ decisions_of (with_keys plain master)
