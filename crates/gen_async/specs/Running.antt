-- What holds of the machine's fields, and what an attempt answers.
use Rattle.std.specs.Prelude.{ℕ, ◌≡◌, ◌<◌, ◌+◌, ◌*◌, List, [], length, map, take, slice_index, slice_index_or, slice_set, None}
use Rattle.gen_log.specs.Writing.{LogBytes}
use Rattle.gen_scenario.specs.WorldLogs.{log_bytes}
use Rattle.gen_scenario.specs.WorldLogs.{logs_of}
use Rattle.gen_scenario.specs.Scenario.{Scenario, IsScenario}
use Rattle.gen_scenario.specs.SignedWorld.{frame_at}
use Rattle.gen_async.specs.declared.acts.Moved.{Moved}
use Rattle.gen_async.specs.Actors.{ActorState, act_at}
use Rattle.gen_async.specs.Frames.{queue}
use Rattle.gen_async.specs.Laws.{IsMachine}
use Rattle.gen_async.specs.Machine.{answer, step, after}

-- a machine: its scenario, the capacity of its queues, and how many acts of each general have moved
pub record Machine : Type 0 where
  pub scenario : Scenario
  pub capacity : ℕ
  pub progress : List ℕ

-- ---- the fields of a machine

abbrev pub progress_of : List ActorState → List ℕ
progress_of actors = map (λ a. a.progress) actors

-- the queue from a to b in a table of 16 by 16
abbrev pub queue_at : {F : Type 0} → List (List F) → ℕ → ℕ → List F
queue_at rows a b = slice_index_or rows (a * 16 + b) []

-- the table with this queue from a to b
abbrev pub with_queue : {F : Type 0} → List (List F) → ℕ → ℕ → List F → List (List F)
with_queue rows a b held = slice_set rows (a * 16 + b) held

-- the generals are those of the scenario, in ascending order, and the queues are what the progress of all
-- generals says
pub record IsKept (s : Scenario) (capacity : ℕ) (progress : List ℕ) (actors : List ActorState)
    (rows : List (List (List (List ℕ)))) : Type 0 where
  pub lawful : IsScenario s
  pub machine : IsMachine s.net capacity progress
  pub all_actors : length actors ≡ s.net.generals
  pub all_rows : length rows ≡ 256
  pub acting : (g : ℕ) (d : ActorState) → g < s.net.generals
      → ◌≡◌ {A = ActorState} (slice_index_or actors g d)
      (record { scenario = s; me = g; progress = slice_index progress g })
  pub queued_up : (a b : ℕ) → a < 16 → b < 16 → queue_at rows a b ≡ queue s.net (frame_at s) progress a b

-- ---- attempts

-- the attempt of g gives the answer and the change that the definitions say
pub record Answers (before : Machine) (g : ℕ) (moved : Moved) (later : Machine) : Type 0 where
  pub said : moved ≡ answer before.scenario.net before.capacity before.progress g
  pub progress : later.progress ≡ step before.scenario.net before.capacity before.progress g
  pub scenario : later.scenario ≡ before.scenario
  pub capacity : later.capacity ≡ before.capacity

-- the machine after these attempts, one after another
pub record RunsTo (before : Machine) (acts : List ℕ) (later : Machine) : Type 0 where
  pub progress : later.progress ≡ after before.scenario.net before.capacity before.progress acts
  pub scenario : later.scenario ≡ before.scenario
  pub capacity : later.capacity ≡ before.capacity

-- the machine after the first few of these attempts, but not all
pub record RunsPartly (before : Machine) (acts : List ℕ) (later : Machine) : Type 0 where
  pub count : ℕ
  pub within : count < length acts
  pub runs : RunsTo before (take count acts) later

-- ---- the end

-- none of these generals has an act left
abbrev pub AreDone : List ActorState → Type 0
AreDone actors = (i : ℕ) (d : ActorState) → i < length actors → act_at (slice_index_or actors i d) ≡ None

-- the logs of a general in the scenario's run
abbrev pub logs_at : ActorState → List LogBytes
logs_at a = map (log_bytes a.me) (logs_of a.scenario a.me)
