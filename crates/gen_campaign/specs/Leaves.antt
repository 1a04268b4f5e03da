-- Which leaves the generals of a campaign take.
use Rattle.std.specs.Prelude.{ℕ, ◌≡◌, ◌<◌, ◌*◌, ◌↔◌, ◌⊎◌, true, List, Contains}
use Rattle.gen_types.specs.declared.heights.TreeHeight.TheVariants.{Six}
use Rattle.gen_tree.specs.Rings.{Ring, seed_of}
use Rattle.gen_chain.specs.Leaves.{leaves_per_run}
use Rattle.gen_scenario.specs.AllAre.{AllAre}
use Rattle.gen_scenario.specs.Scenario.{Scenario}
use Rattle.gen_threads.specs.HeldRings.{HasSignedUnder}

-- in one of the runs the general has no script, and signed a text under this leaf in its log
abbrev pub HasSignedIn : List Scenario → ℕ → ℕ → Type 0
HasSignedIn runs g leaf = (s : Scenario) × Contains runs s × HasSignedUnder s g leaf

-- the sets of all generals: a general's set has exactly the leaves under which it signed a text in one of the
-- runs
abbrev pub AreSpentIn : List Scenario → List (List ℕ) → Type 0
AreSpentIn runs sets =
    (s : Scenario) → Contains runs s
    → AllAre (λ g set. (leaf : ℕ) → Contains set leaf ↔ HasSignedIn runs g leaf) s.net.generals sets

-- ---- while the campaign goes from run to run

-- A general's ring before the remaining runs, whose slots are at least `least`. No leaf of those slots was
-- taken, and the leaves that were taken, together with those that the general signs under in the remaining
-- runs, are those that it signs under in all runs.
pub record IsKept (first : Scenario) (runs rest : List Scenario) (least g : ℕ) (ring : Ring) : Type 0 where
  pub seed : ring.seed ≡ seed_of first.master g
  pub height : ring.height ≡ Six
  pub below : (leaf : ℕ) → Contains ring.taken leaf → leaf < leaves_per_run * least
  pub spent : (leaf : ℕ) → (Contains ring.taken leaf ⊎ HasSignedIn rest g leaf) ↔ HasSignedIn runs g leaf

abbrev pub AreKept : Scenario → List Scenario → List Scenario → ℕ → List Ring → Type 0
AreKept first runs rest least rings = AllAre (IsKept first runs rest least) first.net.generals rings
