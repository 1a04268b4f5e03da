-- The ring that a general of a scenario has before the first round.
use Rattle.std.specs.Prelude.{ℕ, List, [], Option, Some, None}
use Rattle.gen_tree.specs.Rings.{Ring, seed_of}
use Rattle.gen_net.specs.Version.{height_in}
use Rattle.gen_script.specs.declared.lines.ScriptLine.{ScriptLine}
use Rattle.gen_scenario.specs.Scenario.{Scenario, script_of}

-- the ring of the general's seed, with no leaf taken, if it has no script
abbrev pub ring_under : Scenario → ℕ → Option (List ScriptLine) → Option Ring
ring_under s g None = Some (record { seed = seed_of s.master g; height = height_in s.version; taken = [] })
ring_under s g (Some lines) = None

abbrev pub ring_at : Scenario → ℕ → Option Ring
ring_at s g = ring_under s g (script_of s.scripts g)
