-- The machine of a scenario. Whatever the order of acts, its generals put the frames of the scenario's run
-- and write its logs.
use Rattle.std.specs.Prelude.{ℕ, ◌≡◌, ◌-◌, ◌≤◌, List, [], ◌∷◌, ◌++◌, map, length, slice_index}
use Rattle.std.specs.List.{flat_map}
use Rattle.gen_log.specs.declared.entries.Entry.{Entry}
use Rattle.gen_log.specs.declared.entries.Entry.TheVariants.{Start}
use Rattle.gen_scenario.specs.declared.heard.Heard.{Heard}
use Rattle.gen_scenario.specs.Counted.{counted_of}
use Rattle.gen_scenario.specs.Frames.{frame_of}
use Rattle.gen_scenario.specs.RoundEntries.{sign_entries, send_entries, recv_entries}
use Rattle.gen_scenario.specs.Scenario.{Scenario, IsScenario, header_of}
use Rattle.gen_scenario.specs.SignedWorld.{own_order, sender_of, heard_by, frame_at, counted_at, delivery}
use Rattle.gen_scenario.specs.WorldLogs.{middle_of, decide_entry, entries_over}
use Rattle.gen_async.specs.declared.acts.Act.TheVariants.{Puts, Takes}
use Rattle.gen_async.specs.declared.acts.Step.{Step}
use Rattle.gen_async.specs.declared.acts.Step.TheVariants.{Starts, Signs, Acts, Decides}
use Rattle.gen_async.specs.Acts.{acts_of}
use Rattle.gen_async.specs.Frames.{Arrival, RunsAsWorld}
use Rattle.gen_async.specs.Laws.{AreActs}
use Rattle.gen_async.specs.Logs.{log_so_far, whole_log}

-- ---- frames

-- the chains that count of a frame that came to a general
abbrev pub heard_of_arrival : Scenario → ℕ → Arrival (List (List ℕ)) → List Heard
heard_of_arrival s g a =
    map (λ c. record { from = a.from; chain = c })
    (counted_of (header_of s) (delivery a.round a.from g) a.frame)

-- the frame that a general of the scenario puts, by the frames that came to it
abbrev pub puts_by : Scenario → ℕ → List (Arrival (List (List ℕ))) → ℕ → ℕ → List (List ℕ)
puts_by s g arrivals round to = frame_of (sender_of s g) (flat_map (heard_of_arrival s g) arrivals) round to

-- whatever the attempts, the queues hold the frames of the scenario's run
abbrev pub PutsFrames : Type 0
PutsFrames =
    (s : Scenario) (capacity : ℕ) (acts : List ℕ) → IsScenario s → AreActs s.net acts
    → RunsAsWorld s.net (puts_by s) (frame_at s) capacity acts

-- ---- logs

-- what a general of the scenario writes by a step
abbrev pub written_by : Scenario → ℕ → Step → List Entry
written_by s g Starts = Start g (own_order s g) ∷ []
written_by s g (Signs round) = sign_entries (sender_of s g) (heard_by s (round - 1) g) round
written_by s g (Acts (Puts round to)) = send_entries (sender_of s g) (heard_by s (round - 1) g) round to
written_by s g (Acts (Takes round from)) = recv_entries (sender_of s g) round from (counted_at s round from g)
written_by s g Decides = decide_entry s.net (own_order s g) (middle_of s g) ∷ []

-- by all its steps a general writes the entries of its first log in the scenario's run
abbrev pub WritesLog : Type 0
WritesLog =
    (s : Scenario) (g : ℕ) → whole_log s.net (written_by s) g ≡ entries_over (sender_of s g) (middle_of s g)

-- whatever the progress of all generals, what a general has written begins these entries, and is all of them
-- once the general is done
pub record BeginsLog (s : Scenario) (progress : List ℕ) (g : ℕ) : Type 0 where
  pub rest : List Entry
  pub begins : entries_over (sender_of s g) (middle_of s g) ≡ log_so_far s.net (written_by s) progress g
      ++ rest
  pub whole : length (acts_of s.net g) ≤ slice_index progress g
      → log_so_far s.net (written_by s) progress g ≡ entries_over (sender_of s g) (middle_of s g)

abbrev pub BeginsLogs : Type 0
BeginsLogs = (s : Scenario) (progress : List ℕ) (g : ℕ) → BeginsLog s progress g
