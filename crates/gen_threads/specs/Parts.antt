-- What the thread of a general is started with.
use Rattle.std.specs.Prelude.{ℕ, ◌≡◌, ◌<◌}
use Rattle.gen_scenario.specs.Scenario.{Scenario, IsScenario}
use Rattle.gen_scenario.specs.Part.{Part, part_of}

-- the scenario, and the number of the general
pub record RunPart : Type 0 where
  pub scenario : Scenario
  pub me : ℕ

-- the knowledge is that of a general of the scenario's network
pub record IsRunPart (s : Scenario) (known : Part) : Type 0 where
  pub lawful : IsScenario s
  pub general : known.me < s.net.generals
  pub his : known ≡ part_of s known.me
