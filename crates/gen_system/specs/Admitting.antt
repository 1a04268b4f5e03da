-- What an admission shows: the roots of its set, and the headers of the runs of that set.
use Rattle.std.specs.Prelude.{ℕ, ◌≡◌, ◌<◌, List, map, Option, Some, None}
use Rattle.std.specs.List.{range_with_len}
use Rattle.gen_net.specs.Header.{RunHeader}
use Rattle.gen_identity.specs.Openings.{Opens}
use Rattle.gen_system.specs.Admissions.{SetAdmission, root_in, opening_in}
use Rattle.gen_system.specs.RunNets.{network_of_run}
use Rattle.gen_system.specs.Runs.{node_of, set_of_run, version_of_run}
use Rattle.gen_system.specs.Systems.{identity_in, system_id_of}

-- the opening of a node shows its root as the one of the set under the node's identity
abbrev pub HoldsOf : SetAdmission → ℕ → Type 0
HoldsOf a node = Opens (identity_in a.system node) a.set (root_in a node) (opening_in a node)

-- the openings of all nodes do
abbrev pub Holds : SetAdmission → Type 0
Holds a = (node : ℕ) → node < a.system.header.network.generals → HoldsOf a node

-- the roots of the generals of a run, each that of its node
abbrev pub roots_of_run : SetAdmission → ℕ → List (List ℕ)
roots_of_run a run =
    map (λ general. root_in a (node_of a.system run general))
    (range_with_len 0 a.system.header.network.generals)

-- the header of a run
abbrev pub header_of_run : SetAdmission → ℕ → RunHeader
header_of_run a run = record {
  version = version_of_run a.system.header.version run;
  network = network_of_run a.system run;
  roots = roots_of_run a run;
}

-- The admission admits this header as that of the run with this number in the system with this id. It is of
-- that system and of the run's set, it holds, and the header is that of the run.
pub record Admits (id : List ℕ) (run : ℕ) (header : RunHeader) (a : SetAdmission) : Type 0 where
  pub system : system_id_of a.system ≡ id
  pub set : a.set ≡ set_of_run a.system.header.version run
  pub holds : Holds a
  pub of_run : header ≡ header_of_run a run

-- the number under which the admission admits this header; or there is none
abbrev pub IsNumberOf : List ℕ → RunHeader → SetAdmission → Option ℕ → Type 0
IsNumberOf id header a (Some run) = Admits id run header a
IsNumberOf id header a None = (run : ℕ) → Admits id run header a → ⊥
