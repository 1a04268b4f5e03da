-- What holds of the messages of every scenario with signatures.
use Rattle.std.specs.Prelude.{ℕ, zero, suc, ◌≡◌, ◌≢◌, List, [], Option, Some, None}
use Rattle.gen_net.specs.Network.{IsLoyal, rounds}
use Rattle.gen_net.specs.Run.{IsRun}
use Rattle.gen_net.specs.Follows.{Conduct, Commands, Relays, Follows, CommanderFollows}
use Rattle.gen_chain.specs.Chain.{signed_path}
use Rattle.gen_scenario.specs.declared.heard.Heard.{Heard}
use Rattle.gen_scenario.specs.Scenario.{Scenario, IsScenario, scripted}
use Rattle.gen_scenario.specs.Heard.{first_of}
use Rattle.gen_scenario.specs.SignedWorld.{heard_by, messages_of}
use Rattle.gen_scenario.specs.World.{RelaysLeast, IsWorld}

-- the messages are a run of the network
abbrev pub MessagesAreRun : Type 0
MessagesAreRun = (s : Scenario) → IsRun s.net (messages_of s)

-- a commander without a script follows the algorithm with the scenario's order
abbrev pub CommanderObeys : Type 0
CommanderObeys =
    (s : Scenario) → IsScenario s → IsLoyal s.net (scripted s.scripts) 0
    → CommanderFollows s.net (messages_of s) s.order

-- a lieutenant without a script relays each order that it adds, with the least sender's path, and nothing
-- else
abbrev pub LieutenantsRelay : Type 0
LieutenantsRelay =
    (s : Scenario) → IsScenario s → (g : ℕ) → IsLoyal s.net (scripted s.scripts) g → g ≢ 0
    → RelaysLeast s.net (messages_of s) g

-- the path of a chain that was heard, or no path if there is none
abbrev pub path_heard : Option Heard → List ℕ
path_heard None = []
path_heard (Some x) = signed_path x.chain.signers

-- the conduct of each general without a script: the commander has the scenario's order, a lieutenant picks
-- for each order the path that it heard first
abbrev pub conduct_of : Scenario → ℕ → Conduct
conduct_of s zero = Commands s.order
conduct_of s (suc g) = Relays (λ order. path_heard (first_of order (heard_by s (rounds s.net) (suc g))))

-- a general without a script follows the algorithm with this conduct
abbrev pub EachFollows : Type 0
EachFollows =
    (s : Scenario) → IsScenario s → (g : ℕ) → IsLoyal s.net (scripted s.scripts) g
    → Follows s.net (messages_of s) g (conduct_of s g)

-- if nobody has a script, the messages are the run of the plain scenario
abbrev pub PlainWorld : Type 0
PlainWorld = (s : Scenario) → IsScenario s → s.scripts ≡ [] → IsWorld s.net s.order (messages_of s)
