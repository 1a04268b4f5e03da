-- A general at the machine: its state before its next act.
use Rattle.std.specs.Prelude.{ℕ, ◌≡◌, ◌+◌, ◌<◌, ◌≤◌, Bool, true, false, List, [], ◌∷◌, ◌++◌, length, take, Option, Some, None, slice_get}
use Rattle.std.specs.List.{flat_map}
use Rattle.gen_net.specs.Network.{rounds}
use Rattle.gen_log.specs.declared.entries.Entry.{Entry}
use Rattle.gen_log.specs.declared.entries.Entry.TheVariants.{Start}
use Rattle.gen_log.specs.Entry.{entry_spelling}
use Rattle.gen_general.specs.DrivenRecords.{RecordsAfter, HasSent, HasHeard}
use Rattle.gen_general.specs.Recording.{Recorder, with_recvs}
use Rattle.gen_scenario.specs.Scenario.{Scenario, IsScenario}
use Rattle.gen_scenario.specs.SignedWorld.{neighbours_of}
use Rattle.gen_async.specs.declared.acts.Act.{Act}
use Rattle.gen_async.specs.declared.acts.Act.TheVariants.{Puts, Takes}
use Rattle.gen_async.specs.declared.acts.Step.{Step}
use Rattle.gen_async.specs.declared.acts.Step.TheVariants.{Starts, Signs, Acts, Decides}
use Rattle.gen_async.specs.Acts.{acts_of}
use Rattle.gen_async.specs.Logs.{standing, steps_of}
use Rattle.gen_async.specs.ScenarioRun.{written_by}

-- the scenario, the number of the general, and how many of its acts have moved
pub record ActorState : Type 0 where
  pub scenario : Scenario
  pub me : ℕ
  pub progress : ℕ

-- the next act of the general
abbrev pub act_at : ActorState → Option Act
act_at a = slice_get (acts_of a.scenario.net a.me) a.progress

abbrev pub one_more : ActorState → ActorState
one_more a = record { scenario = a.scenario; me = a.me; progress = a.progress + 1 }

-- ---- what the general has written

-- what the general writes by a step, except DECIDE, which it writes when it ends
abbrev pub undecided_by : Scenario → ℕ → Step → List Entry
undecided_by s g Starts = written_by s g Starts
undecided_by s g (Signs round) = written_by s g (Signs round)
undecided_by s g (Acts act) = written_by s g (Acts act)
undecided_by s g Decides = []

-- the entries of the general's log, without DECIDE, once this many acts have moved
unfoldable pub entries_at : Scenario → ℕ → ℕ → List Entry
entries_at s g progress = flat_map (undecided_by s g) (standing progress (steps_of s.net g))

-- ---- the state of the general

-- before a put of round l to h, the general has begun the round and sent to the neighbours below h
pub record StandsAtPut (s : Scenario) (g l h : ℕ) (r : Recorder) : Type 0 where
  pub gone : ℕ
  pub round : l ≡ gone + 1
  pub in_time : gone < rounds s.net
  pub front : List ℕ
  pub back : List ℕ
  pub near : neighbours_of s.net g ≡ front ++ h ∷ back
  pub sent : HasSent s gone g front r

-- before a take of round l from h, the general has sent to all neighbours and heard those below h
pub record StandsAtTake (s : Scenario) (g l h : ℕ) (r : Recorder) : Type 0 where
  pub gone : ℕ
  pub round : l ≡ gone + 1
  pub in_time : gone < rounds s.net
  pub front : List ℕ
  pub back : List ℕ
  pub near : neighbours_of s.net g ≡ front ++ h ∷ back
  pub heard : HasHeard s gone g front r

-- the state before the next act; if no act is left, all rounds are over
abbrev pub StandsBefore : Scenario → ℕ → Option Act → Recorder → Type 0
StandsBefore s g None r = RecordsAfter s (rounds s.net) g r
StandsBefore s g (Some (Puts l h)) r = StandsAtPut s g l h r
StandsBefore s g (Some (Takes l h)) r = StandsAtTake s g l h r

-- the bytes of the entries that the general has written
abbrev pub recorded_bytes : Recorder → List ℕ
recorded_bytes r = flat_map entry_spelling (Start r.standing.known.me r.standing.known.own ∷ r.written)

-- the general has heard the last frame of a round already, but has not begun the next round: `shown` is the
-- number of bytes of its log before that frame
pub record HasHeardLast (s : Scenario) (g progress : ℕ) (r : Recorder) (shown : ℕ) : Type 0 where
  pub gone : ℕ
  pub in_time : gone < rounds s.net
  pub from : ℕ
  pub first : ℕ
  pub others : List ℕ
  pub here : slice_get (acts_of s.net g) progress ≡ Some (Takes gone from)
  pub near : neighbours_of s.net g ≡ first ∷ others
  pub next : slice_get (acts_of s.net g) (progress + 1) ≡ Some (Puts (gone + 1) first)
  pub records : RecordsAfter s gone g r
  pub fits : shown ≤ length (recorded_bytes r)
  pub log : take shown (recorded_bytes r) ≡ flat_map entry_spelling (entries_at s g progress)

abbrev pub IsActing : Scenario → ℕ → ℕ → Recorder → Option ℕ → Type 0
IsActing s g progress r None = StandsBefore s g (slice_get (acts_of s.net g) progress) r
IsActing s g progress r (Some shown) = HasHeardLast s g progress r shown

-- what holds of the fields of a general at the machine
pub record IsActor (s : Scenario) (g : ℕ) (acts : List Act) (progress : ℕ) (r : Recorder)
    (waiting : Option ℕ) : Type 0 where
  pub lawful : IsScenario s
  pub known : g < s.net.generals
  pub planned : acts ≡ acts_of s.net g
  pub within : progress ≤ length acts
  pub acting : IsActing s g progress r waiting

-- whether there is an act and it is a put
abbrev pub is_put : Option Act → Bool
is_put None = false
is_put (Some (Puts l h)) = true
is_put (Some (Takes l h)) = false

-- the general hears a frame, unless it has heard it already
abbrev pub HearsOnce : Recorder → Option ℕ → ℕ → List (List ℕ) → Recorder → Option ℕ → Type 0
HearsOnce old None from frame new waiting =
    (new ≡ with_recvs old from frame) × (waiting ≡ Some (length (recorded_bytes old)))
HearsOnce old (Some shown) from frame new waiting = (new ≡ old) × (waiting ≡ Some shown)
