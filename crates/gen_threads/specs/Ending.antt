-- How a general ends.
use Rattle.std.specs.Prelude.{ℕ, ◌≡◌, ◌<◌, ◌⊎◌, List, map, Contains, Option, Some, None, IfOk, IfErr, OnOk}
use Rattle.gen_tree.specs.Rings.{Ring}
use Rattle.gen_net.specs.Header.{RunHeader}
use Rattle.gen_net.specs.Network.{rounds}
use Rattle.gen_chain.specs.Leaves.{leaves_per_run, leaf_of_order}
use Rattle.gen_log.specs.Writing.{LogBytes}
use Rattle.gen_scenario.specs.Part.{part_of}
use Rattle.gen_scenario.specs.WorldLogs.{log_bytes}
use Rattle.gen_scenario.specs.Scenario.{Scenario, script_of, header_of}
use Rattle.gen_general.specs.Participant.{MayStart}
use Rattle.gen_general.specs.ParticipantLaws.{IsOwnRing}
use Rattle.gen_scenario.specs.WorldLogs.{logs_of}
use Rattle.gen_threads.specs.declared.ends.GeneralEnd.{GeneralEnd}
use Rattle.gen_threads.specs.declared.edges.Edges.{Edges}
use Rattle.gen_threads.specs.Edges.{ArePassesOf, HaveCarried}
use Rattle.gen_threads.specs.Faults.{IsOwnFault}
use Rattle.gen_threads.specs.Rings.{RingSpentOn}

-- the ring is that of the general's seed, and no leaf of the run was taken from it; or there is none, because
-- the general has a script
abbrev pub MayRunWith : Scenario → ℕ → Option Ring → Type 0
MayRunWith s g ring = MayStart (part_of s g) ring × IsOwnRing s g (script_of s.scripts g) ring

-- the ring is the same, except that leaves of the run may have been taken from it
pub record IsSameRing (h : RunHeader) (old new : Ring) : Type 0 where
  pub seed : new.seed ≡ old.seed
  pub height : new.height ≡ old.height
  pub kept : (leaf : ℕ) → Contains old.taken leaf → Contains new.taken leaf
  pub of_run : (leaf : ℕ) → Contains new.taken leaf
      → Contains old.taken leaf ⊎ ((n : ℕ) × (n < leaves_per_run) × (leaf ≡ leaf_of_order h n))

abbrev pub RingComesBack : RunHeader → Option Ring → Option Ring → Type 0
RingComesBack h (Some old) (Some new) = IsSameRing h old new
RingComesBack h None None = Unit {0}
RingComesBack h _ _ = ⊥

-- the logs of a general in the scenario's run
abbrev pub logs_by : Scenario → ℕ → List LogBytes
logs_by s g = map (log_bytes g) (logs_of s g)

-- The general's ring and its passes come back, the passes in their order. If there is no fault, the logs are
-- the general's logs of the scenario's run. Exactly the leaves of their texts were then taken from the ring,
-- and each pass has carried the frames of all rounds. A fault is one of the general's own.
pub record IsEndOf (edges : Edges) (s : Scenario) (g : ℕ) (ring : Option Ring) (end : GeneralEnd) :
    Type 0 where
  pub comes_back : RingComesBack (header_of s) ring end.ring
  pub passes : ArePassesOf edges s g end.puts.items end.takes.items
  pub logs : IfOk end.logs (λ logs. (logs.items ≡ logs_by s g)
      × HaveCarried edges s (rounds s.net) g end.puts.items end.takes.items)
  pub spent : OnOk end.logs (RingSpentOn (header_of s) (logs_of s g) ring end.ring)
  pub fault : IfErr end.logs (IsOwnFault end.takes.items)
