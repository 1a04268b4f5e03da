-- In the run of a plain scenario every general follows the algorithm.
use Rattle.std.specs.Prelude.{ℕ, ◌≡◌, ◌≢◌, ◌<◌, List, [], All}
use Rattle.gen_net.specs.Network.{Network}
use Rattle.gen_net.specs.Walks.{HasDiameter}
use Rattle.gen_net.specs.Run.{Run}
use Rattle.gen_net.specs.Follows.{Conduct, Commands, LieutenantFollows}
use Rattle.gen_net.specs.Signed.{IsSignedRun}
use Rattle.gen_scenario.specs.declared.scenario.Decision.{Decision}
use Rattle.gen_scenario.specs.Theorem.{Case, Premises}
use Rattle.gen_scenario.specs.World.{IsWorld}

-- each lieutenant follows the algorithm with some pick
abbrev pub LieutenantsFollow : Type 0
LieutenantsFollow =
    (net : Network) (order : ℕ) (run : Run) → IsWorld net order run
    → (g : ℕ) → g < net.generals → g ≢ 0
    → (pick : ℕ → List ℕ) × LieutenantFollows net run g pick

-- the run is a signed run in which no general is faulty and the commander has the scenario's order
abbrev pub WorldIsSigned : Type 0
WorldIsSigned =
    (net : Network) (order : ℕ) (run : Run) → IsWorld net order run
    → (conducts : ℕ → Conduct) × IsSignedRun net [] run conducts × (conducts 0 ≡ Commands order)

-- the case of a run in which nobody is faulty
abbrev pub nobody_faulty : Network → Run → (ℕ → Conduct) → Case
nobody_faulty net run conducts = record { net = net; faulty = []; run = run; conducts = conducts }

-- if no two generals are more than d edges apart, the run meets what Theorem 4 asks for, with no faulty
-- general
abbrev pub WorldMeetsPremises : Type 0
WorldMeetsPremises =
    (net : Network) (order : ℕ) (run : Run) → IsWorld net order run → HasDiameter net []
    → (conducts : ℕ → Conduct) × Premises (nobody_faulty net run conducts) × (conducts 0 ≡ Commands order)

-- each of these decisions has this order
abbrev pub AllDecide : ℕ → List Decision → Type 0
AllDecide order decisions = All (λ decision. decision.order ≡ order) decisions
