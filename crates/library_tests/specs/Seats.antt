-- What a general is given whose thread a test starts.
use Rattle.std.specs.Prelude.{ℕ, ◌<◌}
use Rattle.gen_scenario.specs.Scenario.{Scenario}
use Rattle.gen_threads.specs.declared.edges.Edges.{Edges}
use Rattle.gen_threads.specs.declared.edges.Passes.{Passes}
use Rattle.gen_threads.specs.Edges.{HasNewPasses}

-- the general is one of the scenario's, and has its passes, by which nothing was put or taken yet
pub record MayTakeSeat (edges : Edges) (s : Scenario) (me : ℕ) (passes : Passes) : Type 0 where
  pub known : me < s.net.generals
  pub new_passes : HasNewPasses edges s me passes
