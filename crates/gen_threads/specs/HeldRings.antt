-- Rings that are handed in to a run, one for each general, and handed back.
use Rattle.std.specs.Prelude.{ℕ, ◌≡◌, ◌<◌, ◌↔◌, ◌⊎◌, List, [], Contains, Option, None, slice_index_or}
use Rattle.gen_types.specs.declared.heights.TreeHeight.TheVariants.{Four}
use Rattle.gen_tree.specs.Rings.{Ring, seed_of}
use Rattle.gen_net.specs.Version.{height_in}
use Rattle.gen_chain.specs.Leaves.{leaves_per_run, leaf_of_order}
use Rattle.gen_log.specs.Log.{RunLog}
use Rattle.gen_scenario.specs.AllAre.{AllAre}
use Rattle.gen_scenario.specs.Scenario.{Scenario, header_of, script_of}
use Rattle.gen_scenario.specs.WorldLogs.{logs_of}
use Rattle.gen_general.specs.Participant.{IsUnused}
use Rattle.gen_general.specs.Spending.{IsLeafOfLog}

-- the ring of a general's seed, of the run's height, with no leaf taken
abbrev pub IsUntaken : Scenario → ℕ → Ring → Type 0
IsUntaken s g ring = ring ≡ record { seed = seed_of s.master g; height = height_in s.version; taken = [] }

-- the ring is that of the general's seed and of the run's height, and no leaf of the run was taken from it
pub record MayServe (s : Scenario) (g : ℕ) (ring : Ring) : Type 0 where
  pub seed : ring.seed ≡ seed_of s.master g
  pub unused : IsUnused (header_of s) ring

-- the general has no script, and signed a text under this leaf in its log of the scenario's run
pub record HasSignedUnder (s : Scenario) (g leaf : ℕ) : Type 0 where
  pub loyal : script_of s.scripts g ≡ None
  pub log : RunLog
  pub his : Contains (logs_of s g) log
  pub text : IsLeafOfLog (header_of s) log leaf

-- the ring as the run leaves it: exactly the leaves of what the general signed were taken besides, and all of
-- them are leaves of the run
pub record IsAfterRun (s : Scenario) (g : ℕ) (old new : Ring) : Type 0 where
  pub seed : new.seed ≡ old.seed
  pub height : new.height ≡ old.height
  pub taken : (leaf : ℕ) → Contains new.taken leaf ↔ (Contains old.taken leaf ⊎ HasSignedUnder s g leaf)
  pub of_run : (leaf : ℕ) → Contains new.taken leaf
      → Contains old.taken leaf ⊎ ((n : ℕ) × (n < leaves_per_run) × (leaf ≡ leaf_of_order (header_of s) n))

-- the ring of a general in the list of all rings
abbrev pub ring_in : List Ring → ℕ → Ring
ring_in rings g = slice_index_or rings g (record { seed = []; height = Four; taken = [] })

-- the rings of all generals, as the run leaves them
abbrev pub AreAfterRun : Scenario → List Ring → List Ring → Type 0
AreAfterRun s old new = AllAre (λ g ring. IsAfterRun s g (ring_in old g) ring) s.net.generals new
