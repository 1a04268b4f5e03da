-- The runs of a system by their numbers: which set and slot each has, and which node each general is.
use Rattle.std.specs.Prelude.{ℕ, ◌+◌, ◌-◌, ◌*◌, ◌/◌, ◌%◌, ◌^◌}
use Rattle.gen_net.specs.declared.version.Version.{Version}
use Rattle.gen_net.specs.declared.version.Version.TheVariants.{One, Two}
use Rattle.gen_system.specs.declared.proposers.Proposer.{Proposer}
use Rattle.gen_system.specs.declared.proposers.Proposer.TheVariants.{First, Turns}
use Rattle.gen_system.specs.Systems.{RunSystem}

-- how many runs one set of keys serves
abbrev pub runs_of_set : Version → ℕ
runs_of_set One = 1
runs_of_set (Two slot) = 4

-- the number of runs of a system
abbrev pub run_count_of : RunSystem → ℕ
run_count_of s = 2 ^ s.levels * runs_of_set s.header.version

-- the set of keys of a run
abbrev pub set_of_run : Version → ℕ → ℕ
set_of_run One run = run
set_of_run (Two slot) run = run / 4

-- the slot of a run
abbrev pub slot_of_run : Version → ℕ → ℕ
slot_of_run One run = 0
slot_of_run (Two slot) run = run % 4

-- the run of a set that has this slot
abbrev pub run_by : Version → ℕ → ℕ → ℕ
run_by One set slot = set
run_by (Two of_system) set slot = 4 * set + slot

-- the version of a run's header
abbrev pub version_of_run : Version → ℕ → Version
version_of_run One run = One
version_of_run (Two slot) run = Two (run % 4)

-- The node that a general of a run is, among n nodes. Where nodes propose in turns, the node with the run's
-- number comes first, and the others follow it, round and round.
abbrev pub node_by : Proposer → ℕ → ℕ → ℕ → ℕ
node_by First n run general = general
node_by Turns n run general = (run + general) % n

-- the general of a run that a node is
abbrev pub general_by : Proposer → ℕ → ℕ → ℕ → ℕ
general_by First n run node = node
general_by Turns n run node = (node + (n - run % n)) % n

-- the node that a general of a run is in a system
abbrev pub node_of : RunSystem → ℕ → ℕ → ℕ
node_of s run general = node_by s.proposer s.header.network.generals run general

-- the general of a run that a node of a system is
abbrev pub general_of : RunSystem → ℕ → ℕ → ℕ
general_of s run node = general_by s.proposer s.header.network.generals run node
